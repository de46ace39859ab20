-- Kept choices, followed back from a node whose total falls with the last round, are a walk whose total is below all shorter ones'.
-- Assumes nothing.
use mathlib.Core.Path.{◌≡◌, refl, ap, ◌∙◌, subst}
use mathlib.Core.List.{List}
use Prim.Native.Nat.{ℕ, zero, suc, ◌+◌, ◌*◌, ◌-◌, ◌<◌}
use native.Mathlib.Omega.{arith}
use lib.ListN.{length, get_or}
use lib.IntN.{pos, ◌+ℤ◌}
use lib.Signed.{◌≤ℤ◌, ◌<ℤ◌}
use Rattle.times.specs.declared.Iterations.{Iterations}
use Rattle.words.proofs.Ints.{ints, sumℤ}
use Rattle.records.specs.Records.{most_nodes}
use Rattle.folding.specs.Walks.{Net, Walk, along}
use Rattle.folding.specs.Round.{round}
use Rattle.folding.proofs.RoundLaws.{Closed, round_wire, round_zero}
use Rattle.rounds.specs.Rounds.{bytes_net, Wired}
use Rattle.rounds.proofs.RowLaws.{closed}
use Rattle.falls.specs.Choices.{Reaches, Falls, Kept, back, Backed, Falling}

-- where a total falls, so did that of the node that it was reached from
falls_on : (g : Net) → Closed g → (k u c : ℕ) → Reaches g (round g (suc k)) (round g (suc (suc k)) u) u c → Falls g (suc k) u → Falls g k (g.to c)
falls_on g cl k u c r f =
    let a : round g (suc k) u ≤ℤ (g.bound c +ℤ round g k (g.to c)) = subst (λ (x : ℕ). round g (suc k) x ≤ℤ (g.bound c +ℤ round g k (g.to c))) r.leaves (round_wire g cl k c r.wire) in
    let b = r.comes in
    omega (ints, sumℤ (g.bound c) (round g k (g.to c)), sumℤ (g.bound c) (round g (suc k) (g.to c)))

module _ {b : List ℕ} {at nodes wires : ℕ} (bounds : List Iterations) (wired : Wired b at nodes wires) (choices : List ℕ) (first : ℕ)
    (kept : Kept (bytes_net b at nodes wires bounds) choices first) where
  abbrev g : Net
  g = bytes_net b at nodes wires bounds

  cl : Closed g
  cl = closed bounds wired

  record Back (k u : ℕ) : Type 0 where
    reads : Backed g choices (suc k) u
    end : ℕ
    walk : Walk g (back g choices (suc k) u) u end
    long : length (back g choices (suc k) u) ≡ suc k
    comes : along g (back g choices (suc k) u) ≤ℤ round g (suc k) u

  back_walk : (k u : ℕ) → k < nodes → u < nodes → Falls g k u → Back k u
  unfolding back
  back_walk zero u h hu f =
      let c = get_or choices (most_nodes * 0 + u) 0 in
      let r = kept.chosen 0 u h hu f in
      let near = r.comes in
      let none = round_zero g (g.to c) (wired.meets c r.wire) in
      record {
        reads = (omega (arith, wired.few_nodes), r.wire, tt);
        end = g.to c;
        walk = (r.wire, r.leaves, refl);
        long = refl;
        comes = omega (ints, sumℤ (g.bound c) (pos 0), sumℤ (g.bound c) (round g 0 (g.to c)));
      }
  back_walk (suc k) u h hu f =
      let c = get_or choices (most_nodes * suc k + u) 0 in
      let r = kept.chosen (suc k) u h hu f in
      let near = r.comes in
      let m = back_walk k (g.to c) (omega arith) (wired.meets c r.wire) (falls_on g cl k u c r f) in
      let far = m.comes in
      record {
        reads = (omega (arith, wired.few_nodes), r.wire, m.reads);
        end = m.end;
        walk = (r.wire, r.leaves, m.walk);
        long = ap suc m.long;
        comes = omega (ints, sumℤ (g.bound c) (along g (back g choices (suc k) (g.to c))), sumℤ (g.bound c) (round g (suc k) (g.to c)));
      }

  all_back : Back (nodes - 1) first
  all_back = back_walk (nodes - 1) first (omega (arith, wired.some_node)) kept.node kept.falls

  whole : suc (nodes - 1) ≡ nodes
  whole = omega (arith, wired.some_node)

  pub kept_backed : Backed g choices nodes first
  kept_backed = subst (λ (k : ℕ). Backed g choices k first) whole all_back.reads

  pub kept_falling : Falling g (back g choices nodes first)
  kept_falling =
      let m = all_back in
      let near = m.comes in
      let fall = kept.falls in
      subst (λ (k : ℕ). Falling g (back g choices k first)) whole
      (record {
        start = first;
        end = m.end;
        in_net = kept.node;
        walk = m.walk;
        long = m.long ∙ whole;
        falls = let l : along g (back g choices (suc (nodes - 1)) first) <ℤ round g (nodes - 1) first = omega ints in l;
      })
