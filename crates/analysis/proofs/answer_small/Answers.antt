-- `analysis::answer_small` meets its contract: a small stack may do.
use Prim.Native.Nat.{ℕ}
use native.Mathlib.Omega.{arith}
use lib.ListN.{length-replicate}
use Rattle.analysis.proofs.answer_small.Goals as goal

pub answer_in-requires : goal.answer_in-requires
answer_in-requires c = record { lent = c.requires; code_len_bound = (omega (arith, length-replicate {A = ℕ} 1280 0), λ n in_code few. in_code) }

pub returns : goal.returns
returns c = c.answer_in.ensures.0
