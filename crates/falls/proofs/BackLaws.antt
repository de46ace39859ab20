-- The choices followed back: one wire more, and what walk they are where each was kept. Assumes nothing.
use mathlib.Core.Path.{◌≡◌, sym, ap, ◌∙◌, subst}
use mathlib.Core.List.{List, [], ◌∷◌, ◌++◌, append_assoc, append-nil}
use Prim.Native.Nat.{ℕ, suc, ◌+◌, ◌*◌, ◌-◌, ◌<◌}
use native.Mathlib.Numerals.{add-one}
use native.Mathlib.Omega.{arith}
use lib.ListN.{length, get_or, take, set}
use lib.Seq.{take-suc-set}
use Rattle.records.specs.Records.{most_nodes}
use Rattle.folding.specs.Walks.{Net}
use Rattle.falls.specs.Choices.{back, Backed}

module _ (g : Net) (choices : List ℕ) (n : ℕ) where
  -- what is left after wire i
  pub onward : (i u : ℕ) → i < n → Backed g choices (n - i) u → Backed g choices (n - (i + 1)) (g.to (get_or choices (most_nodes * (n - 1 - i) + u) 0))
  onward i u h p =
      let p' = subst (λ (k : ℕ). Backed g choices k u) (let e : n - i ≡ suc (n - 1 - i) = omega arith in e) p in
      subst (λ (k : ℕ). Backed g choices k (g.to (get_or choices (most_nodes * (n - 1 - i) + u) 0))) (let e : n - 1 - i ≡ n - (i + 1) = omega arith in e) p'.2

  pub back_more : (i u : ℕ) (walk : List ℕ) → i < n → i < length walk →
      take (i + 1) (set walk i (get_or choices (most_nodes * (n - 1 - i) + u) 0)) ++ back g choices (n - (i + 1)) (g.to (get_or choices (most_nodes * (n - 1 - i) + u) 0))
      ≡ take i walk ++ back g choices (n - i) u
  unfolding back
  back_more i u walk h l =
      let c = get_or choices (most_nodes * (n - 1 - i) + u) 0 in
      let one : take (i + 1) (set walk i c) ≡ take i walk ++ (c ∷ []) = rw (add-one i) (take-suc-set walk i c l) in
      ap (λ (k : ℕ). take (i + 1) (set walk i c) ++ back g choices k (g.to c)) (let e : n - (i + 1) ≡ n - 1 - i = omega arith in e)
      ∙ ap (λ (x : List ℕ). x ++ back g choices (n - 1 - i) (g.to c)) one
      ∙ append_assoc (take i walk) (c ∷ []) (back g choices (n - 1 - i) (g.to c))
      ∙ ap (λ (k : ℕ). take i walk ++ back g choices k u) (let e : suc (n - 1 - i) ≡ n - i = omega arith in e)

  -- wire i walked, and what is left followed back from u', the node that it meets
  pub back_on : (i u u' : ℕ) (walk whole : List ℕ) → i < n → i < length walk → u' ≡ g.to (get_or choices (most_nodes * (n - 1 - i) + u) 0) →
      Backed g choices (n - i) u × (take i walk ++ back g choices (n - i) u ≡ whole) →
      Backed g choices (n - (i + 1)) u' × (take (i + 1) (set walk i (get_or choices (most_nodes * (n - 1 - i) + u) 0)) ++ back g choices (n - (i + 1)) u' ≡ whole)
  back_on i u u' walk whole h l e p = rw e (onward i u h p.0, back_more i u walk h l ∙ p.1)

  pub back_done : (i u : ℕ) (walk whole : List ℕ) → i ≡ n → take i walk ++ back g choices (n - i) u ≡ whole → take n walk ≡ whole
  unfolding back
  back_done i u walk whole e h =
      sym (append-nil (take n walk))
      ∙ ap (λ (k : ℕ). take n walk ++ back g choices k u) (let z : 0 ≡ n - n = omega arith in z)
      ∙ ap (λ (k : ℕ). take k walk ++ back g choices (n - k) u) (sym e)
      ∙ h
