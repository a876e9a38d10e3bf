-- Laws of what `analyse` and `add_policy` answer, by the tests that they make in turn. No contract cites this file.
use Rattle.std.specs.Prelude.{ℕ, ◌≤◌, ◌<◌, Bool, true, false, List, ◌≡◌, length}
use Rattle.std.proofs.Common.{le-leb}
use Rattle.std.proofs.lemmas.Bool.{lt-leb}
use Rattle.rules.specs.Numbers.{Answer}
use Rattle.rules.specs.Tries.{Row}
use Rattle.words.specs.Runs.{refusing}
use Rattle.rows.specs.States.{storing}
use Rattle.schema.specs.Items.{lawful_schema}
use Rattle.analysis.specs.Outcomes.{with_schema}

module _ (schema : List ℕ) (words : ℕ) (else-lawful : Bool) (out : List ℕ) (answer : Answer (List Row)) where
  -- 31 for the schema, and for the buffer
  pub short_schema : length schema < 142337 → with_schema schema words else-lawful out answer ≡ refusing 31 0 out
  short_schema h = rw (lt-leb 142337 (length schema) h)

  module _ (long : 142337 ≤ length schema) where
    pub short_out : length out < words → with_schema schema words else-lawful out answer ≡ refusing 31 0 out
    short_out h = rw (le-leb 142337 (length schema) long, lt-leb words (length out) h)

    module _ (room : words ≤ length out) where
      -- 1 at 0 for the schema, and for what else is lent
      pub unlawful_schema : lawful_schema schema ≡ false → with_schema schema words else-lawful out answer ≡ refusing 1 0 out
      unlawful_schema h = rw (le-leb 142337 (length schema) long, le-leb words (length out) room, h)

      module _ (lawful : lawful_schema schema ≡ true) where
        pub unlawful_else : else-lawful ≡ false → with_schema schema words else-lawful out answer ≡ refusing 1 0 out
        unlawful_else h = rw (le-leb 142337 (length schema) long, le-leb words (length out) room, lawful, h)

        -- otherwise what the text gives
        pub all_lawful : else-lawful ≡ true → with_schema schema words else-lawful out answer ≡ storing out answer
        all_lawful h = rw (le-leb 142337 (length schema) long, le-leb words (length out) room, lawful, h)
