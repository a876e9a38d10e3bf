-- `steps::apply` meets its contract: each step is that which its variant names.
use Rattle.steps.proofs.apply.Goals as goal

pub attr_step-requires : goal.attr_step-requires
attr_step-requires c =
    record { working = c.requires.working.0; name_bound = (rw c.in-Attr.is at (c.requires.step_bound.1.1 c.in-Some.read c.in-Some.is), c.requires.working.1) }

pub rec_step-requires : goal.rec_step-requires
rec_step-requires c =
    record {
      working = c.requires.working.0;
      count_bound = (
        rw c.in-Rec.is at (rw c.in-Some.is at c.requires.step_bound.0),
        (c.requires.step_bound.1.0, rw c.in-Rec.is at (c.requires.step_bound.1.1 c.in-Some.read c.in-Some.is)),
      );
    }
