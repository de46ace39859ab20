-- A ring read around from one of its places: one wire more, and the whole. Assumes nothing.
use mathlib.Core.Path.{◌≡◌, sym, ap, ◌∙◌}
use mathlib.Core.List.{List, [], ◌∷◌, ◌++◌}
use Prim.Native.Nat.{ℕ, ◌+◌, ◌-◌, ◌%◌, ◌<◌}
use native.Mathlib.Nat.{mod-eq_of_lt, mod-eq-sub-mod}
use native.Mathlib.Decide.{dec_le}
use native.Mathlib.Numerals.{add-one}
use native.Mathlib.Omega.{arith}
use lib.ListN.{length, get_or, take, drop, set, length-append, length-drop, get_or-append}
use lib.Seq.{get_or-append-add, get_or-take, get_or-drop, length-take-le, take-suc, take-suc-set}

module _ (es : List ℕ) (low : ℕ) (h : low < length es) where
  abbrev pub turned : List ℕ
  turned = drop low es ++ take low es

  turned_long : length turned ≡ length es
  turned_long = length-append (drop low es) (take low es) ∙ (let a = length-drop low es in let b = length-take-le low es (omega arith) in omega arith)

  turned_at : (q : ℕ) → q < length es → get_or es ((low + q) % length es) 0 ≡ get_or turned q 0
  turned_at q k =
      let n = length es in
      let back = length-drop low es in
      elim (dec_le n (low + q)) [
        | yes l ↦
            let r = low + q - n in
            ap (λ (i : ℕ). get_or es i 0) (mod-eq-sub-mod l ∙ mod-eq_of_lt (let z : low + q - n < n = omega arith in z))
            ∙ sym (get_or-take low es r 0 (omega arith))
            ∙ sym (get_or-append-add (drop low es) (take low es) r 0)
            ∙ ap (λ (i : ℕ). get_or turned i 0) (let z : length (drop low es) + r ≡ q = omega arith in z)
        | no l ↦
            ap (λ (i : ℕ). get_or es i 0) (mod-eq_of_lt (let z : low + q < n = omega arith in z))
            ∙ sym (get_or-drop low es q 0)
            ∙ sym (get_or-append (drop low es) (take low es) 0 q (omega arith))
      ]

  pub turned_more : (q : ℕ) (out : List ℕ) → q < length es → q < length out → take q out ≡ take q turned →
      take (q + 1) (set out q (get_or es ((low + q) % length es) 0)) ≡ take (q + 1) turned
  turned_more q out k l same =
      let long = turned_long in
      rw (add-one q)
      (take-suc-set out q (get_or es ((low + q) % length es) 0) l
      ∙ ap (λ (x : List ℕ). x ++ (get_or es ((low + q) % length es) 0 ∷ [])) same
      ∙ ap (λ (x : ℕ). take q turned ++ (x ∷ [])) (turned_at q k)
      ∙ sym (take-suc turned q 0 (omega arith)))
