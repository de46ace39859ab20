-- Where the places of a unit begin, one turn more of the loop that works it out, and a unit's depth. Assumes nothing.
use mathlib.Core.Path.{◌≡◌, ap, ◌∙◌}
use mathlib.Core.Logic.{inl, inr}
use mathlib.Core.List.{List}
use Prim.Native.Nat.{ℕ, suc, ◌+◌, ◌*◌, ◌<◌}
use native.Mathlib.Nat.{eq-or-lt_of_le}
use native.Mathlib.Numerals.{add-one}
use native.Mathlib.Omega.{arith}
use lib.ListN.{length, get_or, set}
use lib.Seq.{get_or-set_same, get_or-set_other}
use Rattle.records.specs.Records.{at}
use Rattle.plans.specs.declared.Plan as Head
use Rattle.plans.specs.Plan.{PlanUnit, unit_in, plan_read}
use Rattle.plans.proofs.WholeLaws.{unit_so}
use Rattle.memory.specs.Memory.{base, places}
use Rattle.memory.specs.Taken.{Taken}
use Rattle.memory.proofs.TakenLaws.{whole_taken, few_units, unit_fine}

module _ (b : List ℕ) (p : Head.Plan) (t : Taken b p) where
  -- unit q's places begin where the units' before it end
  pub lines_more : (q : ℕ) → q < p.units → (size n : ℕ) (l : List ℕ) → length l ≡ 8 → size ≡ suc (base (plan_read b) q) →
      n ≡ places (plan_read b) q → ((k : ℕ) → k < q → get_or l k 0 ≡ suc (base (plan_read b) k)) →
      (size + n ≡ suc (base (plan_read b) (q + 1))) × ((k : ℕ) → k < q + 1 → get_or (set l q size) k 0 ≡ suc (base (plan_read b) k))
  unfolding base
  lines_more q h size n l l8 s e before =
      let pl = plan_read b in
      let next : base pl (q + 1) ≡ base pl q + places pl q = ap (base pl) (add-one q) in (
        omega (arith, next),
        λ k hk. elim (eq-or-lt_of_le hk) [
          | inl same ↦ let k_q : k ≡ q = omega arith in rw k_q (get_or-set_same l q size 0 (omega (arith, few_units b p t)) ∙ s)
          | inr less ↦ get_or-set_other l q k size 0 (λ same. omega arith) ∙ before k (omega arith)
        ],
      )

  pub depth_so : (q : ℕ) → q < p.units → ((unit_in (plan_read b) q).unit.depth ≡ at b (9 + 7 * q + 3)) × (0 < (unit_in (plan_read b) q).unit.depth)
  depth_so q h = (ap (λ (u : PlanUnit). u.unit.depth) (unit_so b p (whole_taken t) q h), (unit_fine b p t q h).deep)
