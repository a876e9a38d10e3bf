-- `analysis::answer_in` meets its contract: by what is asked.
use Rattle.analysis.proofs.answer_in.Goals as goal

pub answer_steps-requires : goal.answer_steps-requires
answer_steps-requires c = record { request_bound = rw c.in-Steps.is at c.requires.lent; code_len_bound = c.requires.code_len_bound }

pub answer_policy-requires : goal.answer_policy-requires
answer_policy-requires c = record { lent = rw c.in-Policy.is at c.requires.lent; code_len_bound = c.requires.code_len_bound }

pub returns-in-Steps : goal.returns-in-Steps
returns-in-Steps c = rw c.in-Steps.is c.answer_steps.ensures

pub returns-in-Policy : goal.returns-in-Policy
returns-in-Policy c = rw c.in-Policy.is c.answer_policy.ensures
