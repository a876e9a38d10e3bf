-- `load_ancestors::requests::ask_ancestors` meets its contract: requests that are written are awaited, and a refusal changes nothing.
use Rattle.load_ancestors.specs.RequestCallLaws.{ask_done, ask_refused}
use Rattle.load_ancestors.proofs.requests.ask_ancestors.Goals as goal

pub returns-in-Err : goal.returns-in-Err
returns-in-Err c =
    ask_refused c.requires.read_to c.requires.in_bounds.1 _ _ c.write_requests.result (c.write_requests.ensures c.requires.read_to.load c.requires.read_to.told) c.in-Err.is

pub returns : goal.returns
returns c =
    ask_done c.requires.read_to c.requires.in_bounds.1 _ _ c.write_requests.result (c.write_requests.ensures c.requires.read_to.load c.requires.read_to.told) c.in_default.is
