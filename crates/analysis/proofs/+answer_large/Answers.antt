-- `analysis::answer_large` meets its contract: no text fills the large runs, so that it never calls itself.
use Prim.Native.Nat.{ℕ}
use native.Mathlib.Omega.{arith}
use lib.ListN.{length-replicate}
use Rattle.analysis.proofs.+answer_large.Goals as goal
use Rattle.analysis.proofs.+answer_large.Goals.{In-Err-Full}

-- the large runs are not full
never : (t : ℕ) (c : In-Err-Full t) → ⊥
never t c = (rw c.in-Err-Full.field-0-is at c.in-Err-Full.ensures.1) (length-replicate {A = ℕ} 212448 0) (length-replicate {A = ℕ} 33825 0)

pub answer_in-requires : goal.answer_in-requires
answer_in-requires t c = record {
  lent = c.requires;
  code_len_bound = (omega (arith, length-replicate {A = ℕ} 212448 0), λ n in_code few. omega (arith, length-replicate {A = ℕ} 6656 0));
}

pub answer_large-requires : goal.answer_large-requires
answer_large-requires t c = absurd (never t (goal.at.answer_large-requires t c).In-Err-Full)
