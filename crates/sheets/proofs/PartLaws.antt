-- A sheet's first fault is that of its parts in 01's order: the header; the length and the records; clashes and inputs. Assumes nothing.
use mathlib.Core.Path.{◌≡◌, refl, ap, ◌∙◌}
use mathlib.Core.Bool.{true}
use mathlib.Core.List.{List}
use Prim.Native.Nat.{ℕ, zero, suc, ◌<◌}
use native.Mathlib.Omega.{arith}
use lib.Dec.{leb}
use lib.ListN.{length}
use Rattle.std.specs.Prelude.{Ok, Err}
use Rattle.words.specs.Loops.{unless, ◌then◌}
use Rattle.words.proofs.FaultLaws.{then_split, then_assoc, first_at}
use Rattle.records.specs.declared.reading.Reason.{Reason}
use Rattle.records.specs.declared.reading.Run.{Run}
use Rattle.records.specs.Records.{fold_in, units_in, nodes_in, wires_in, counts_fit, record_fault, node_fits}
use Rattle.records.specs.Answers.{judged, place, unit_run, node_run, wire_run, units_in_run, nodes_in_run, parts_fault, front_fault}
use Rattle.records.proofs.ReadingLaws.{record_split}
use Rattle.records.proofs.AnswerLaws.{got_none, refused_last, refused_first}
use Rattle.records.proofs.FrontLaws.{front_said, reading_parts, node_same, front_whole, front_nodes}
use Rattle.sheets.specs.declared.Sheet.{Sheet as Header}
use Rattle.sheets.specs.Sheet.{unit_of, node_of, sheet_format, sheet_of, sheet_faults, sheet_fault}
use Rattle.sheets.specs.Answers.{header_of, sheet_answer, head_fault, header_answer, wire_fault, wires_fault, records_fault, nodes_fault, HeaderSaid, Whole, Held}
use Rattle.sheets.proofs.HeldLaws.{said_fold, said_units, said_nodes, said_wires}
use Rattle.sheets.proofs.SheetLaws.{fold_is, units_is, nodes_is, unit_read, node_read}

-- ---- what the header says, put into the records' judging

module _ (b : List ℕ) (s : Header) (h : HeaderSaid b s) where
  pub sheet_front : (whole : ℕ) (us ns ws : Run) → whole ≡ place ws ws.count → us ≡ unit_run sheet_format s.units →
      ns ≡ node_run sheet_format s.units s.nodes → ws ≡ wire_run sheet_format s.units s.nodes s.wires → parts_fault b whole s.fold us ns ≡ front_fault sheet_format b
  sheet_front whole us ns ws whole_is us_is ns_is ws_is =
      front_said sheet_format b s.fold s.units s.nodes s.wires whole us ns ws (said_fold b s h.said) (said_units b s h.said) (said_nodes b s h.said) (said_wires b s h.said) ws_is whole_is us_is
      ns_is

  pub sheet_whole : front_fault sheet_format b ≡ 0 → Whole b s
  sheet_whole z = record { said = h.said; long = front_whole sheet_format b z }

-- ---- the parts, in 01's order

regrouped : (a r c d : ℕ) → (a then r then c then d) ≡ (a then (r then (c then d)))
regrouped zero r c d = then_assoc r c d
regrouped (suc a) r c d = refl

module _ (b : List ℕ) where
  -- the sheet's nodes fit as the bytes' do
  pub node_fits_is : (x : ℕ) → x < nodes_in b →
      node_fits (sheet_of b).fold (length (sheet_of b).units) (unit_of (sheet_of b)) (node_of (sheet_of b) x)
      ≡ node_fits (fold_in b) (units_in b) (units_in_run b (unit_run sheet_format (units_in b))) (nodes_in_run b (node_run sheet_format (units_in b) (nodes_in b)) x)
  node_fits_is x l =
      rw (fold_is b, units_is b)
      (node_same sheet_format b true (unit_of (sheet_of b)) (node_of (sheet_of b)) (λ _. true) (λ i k. unit_read b i (omega (arith, units_is b)))
      (λ i k. node_read b i (omega (arith, nodes_is b))) x l)

  pub parts : sheet_fault b ≡ (head_fault b then (records_fault b then nodes_fault (sheet_of b)))
  unfolding sheet_faults wire_fault
  parts =
      rw (
        fold_is b,
        units_is b,
        reading_parts sheet_format b (counts_fit b) (unit_of (sheet_of b)) (node_of (sheet_of b)) _ (λ i k. unit_read b i (omega (arith, units_is b)))
            (λ i k. node_read b i (omega (arith, nodes_is b))),
      )
      (regrouped (head_fault b) (records_fault b) _ _)

  -- ---- the answer, part by part

  pub head_refused : (why : Reason) → header_answer b ≡ Err why → sheet_answer b ≡ Err why
  unfolding header_answer sheet_answer
  head_refused why e = rw parts (refused_first (header_of b) (header_of b) (head_fault b) (records_fault b then nodes_fault (sheet_of b)) why e)

  pub head_counts : head_fault b ≡ 0 → counts_fit b ≡ true
  head_counts z =
      let t = then_split (unless (leb sheet_format.header_length (length b)) 1) (record_fault b 0 sheet_format.header_mark (counts_fit b)) z in
      (record_split b 0 sheet_format.header_mark (counts_fit b) t.1).1

  pub head_got : (s : Header) → header_answer b ≡ Ok s → (head_fault b ≡ 0) × HeaderSaid b s
  unfolding header_answer
  head_got s e =
      let h = got_none (header_of b) s (head_fault b) e in
      (h.0, record { said = h.1; counts = head_counts h.0 })

  module _ (z : head_fault b ≡ 0) where
    after_head : sheet_fault b ≡ (records_fault b then nodes_fault (sheet_of b))
    after_head = parts ∙ ap (λ (a : ℕ). a then (records_fault b then nodes_fault (sheet_of b))) z

    pub records_refused : (why : Reason) → judged (records_fault b) ≡ Err why → sheet_answer b ≡ Err why
    unfolding sheet_answer
    records_refused why e = rw after_head (refused_first tt (header_of b) (records_fault b) (nodes_fault (sheet_of b)) why e)

    module _ (y : records_fault b ≡ 0) where
      after_records : sheet_fault b ≡ nodes_fault (sheet_of b)
      after_records = after_head ∙ ap (λ (a : ℕ). a then nodes_fault (sheet_of b)) y

      pub nodes_refused : (why : Reason) → judged (nodes_fault (sheet_of b)) ≡ Err why → sheet_answer b ≡ Err why
      unfolding sheet_answer
      nodes_refused why e = rw after_records (refused_last tt (header_of b) (nodes_fault (sheet_of b)) why e)

      pub all_passed : nodes_fault (sheet_of b) ≡ 0 → sheet_answer b ≡ Ok (header_of b)
      unfolding sheet_answer
      all_passed x = rw (after_records, x) refl

  -- records without fault are held
  pub held : (s : Header) → HeaderSaid b s → records_fault b ≡ 0 → Held b s
  unfolding wire_fault
  held s h y =
      let t = then_split (front_fault sheet_format b) (wires_fault b) y in
      record {
        whole = sheet_whole b s h t.0;
        counts = h.counts;
        node_ok = λ x l. node_fits_is x l ∙ front_nodes sheet_format b t.0 x l;
        wire_ok = λ e l. (record_split b _ sheet_format.wire_mark _ (first_at (wires_in b) (wire_fault b) t.1 e l)).1;
      }
