-- `load_jobs::running::run_ancestors` is safe: the requests have room.
use Rattle.std.proofs.Common.{ℕ, ◌≤◌, length, replicate, sym, arith}
use lib.ListN.{length-replicate}
use Rattle.load_jobs.proofs.running.run_ancestors.Goals as goal

-- as many words as there are have room for a count and all heads
room : (n : ℕ) → 4097 ≤ n → 4097 ≤ length (replicate {A = ℕ} n 0)
room n h = omega (arith, length-replicate {A = ℕ} n 0)

heads : 4097 ≤ 528385
heads = omega arith

pub ask_ancestors-requires : goal.ask_ancestors-requires
ask_ancestors-requires c = (c.requires.0, room 528385 heads)

pub slice_bounds-ask_ancestors-end : goal.slice_bounds-ask_ancestors-end
slice_bounds-ask_ancestors-end c = sym (length-replicate {A = ℕ} 528385 0)
