-- `listings::listing` meets its contract: no text of what the planner leaves is refused. Assumes nothing.
use Rattle.planner.specs.Calls.{planned_number, planned_length}
use Rattle.listings.proofs.SaidLaws.{said_fine, said_so}
use Rattle.listings.proofs.listing.Goals as goal

pub returns : goal.returns
returns c =
    let plan = c.plan-answer in
    let left = plan.new.out in
    record {
      answered = planned_number plan.result;
      written = planned_length plan.result;
      planned = plan.ensures;
      texted = rw (said_fine c.args.sheet.now c.args.plan.now plan.result left plan.ensures, said_so plan.result left) at c.answer_text.ensures;
    }
