-- Only passes between functions: inputs fed, as masks. Mask 2q + i holds the slots in which input i of unit q is fed. Assumes nothing.
use Rattle.std.specs.Prelude.{◌≡◌, Bool, false, ◌&&◌, ◌||◌, List, ℕ, ◌+◌, ◌*◌, ◌^◌, ◌<◌, leb, eqb, get_or, set, replicate}
use Rattle.words.specs.Loops.{every, some_of}
use Rattle.words.specs.Masks.{in_mask, with_slot}
use Rattle.records.specs.declared.Unit.{Unit}
use Rattle.slots.specs.declared.feeding.Input.{Input}
use Rattle.slots.specs.declared.feeding.Fed.{Fed}
use Rattle.records.specs.Units.{inputs}
use Rattle.records.specs.Records.{most_fold, most_units}

-- column inputs: 2 at most
abbrev pub most_inputs : ℕ
most_inputs = 2

-- an input that the masks have room for
pub record InputMasked (t : Input) : Type 0 where
  pub on_unit : t.unit < most_units
  pub in_turn : t.slot < most_fold
  pub one_of : t.input < most_inputs

-- the number of its mask
abbrev pub mask_of : Input → ℕ
mask_of t = most_inputs * t.unit + t.input

-- t is input i of the node on unit q in slot v
abbrev pub feeds_in : ℕ → ℕ → ℕ → Input → Bool
feeds_in q v i t = eqb t.unit q && eqb t.slot v && eqb t.input i

-- two are one input
abbrev pub same_input : Input → Input → Bool
same_input t u = eqb (mask_of t) (mask_of u) && eqb t.slot u.slot

-- no input fed, and one input more
abbrev pub none_fed : Fed
none_fed = record { masks = replicate 16 0; twice = false }

abbrev pub with_fed : Fed → Input → Fed
with_fed f t =
    let mask = get_or f.masks (mask_of t) 0 in
    record { masks = set f.masks (mask_of t) (with_slot mask t.slot); twice = f.twice || in_mask mask t.slot }

-- what the masks say of w wires or switches of which number e feeds `to e`
pub record FedOf (w : ℕ) (to : ℕ → Input) (f : Fed) : Type 0 where
  pub twice_is : f.twice ≡ some_of w (λ e. some_of e (λ d. same_input (to d) (to e)))
  pub fed : (q v i : ℕ) → i < most_inputs → in_mask (get_or f.masks (most_inputs * q + i) 0) v ≡ some_of w (λ e. feeds_in q v i (to e))
  pub small : (q : ℕ) → get_or f.masks q 0 < 2 ^ 32

-- of a unit of that kind, each input that it has is fed in the occupied slots and in no other
abbrev pub unit_fed : ℕ → ℕ → ℕ → ℕ → Bool
unit_fed kind occupied first second = (leb (inputs kind) 0 || eqb first occupied) && (leb (inputs kind) 1 || eqb second occupied)

unfoldable pub units_fed : ℕ → (ℕ → Unit) → List ℕ → List ℕ → Bool
units_fed n unit occupied masks =
    every n (λ q. unit_fed (unit q).kind (get_or occupied q 0) (get_or masks (most_inputs * q) 0) (get_or masks (most_inputs * q + 1) 0))
