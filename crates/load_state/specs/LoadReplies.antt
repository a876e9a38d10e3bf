-- What a call of a load answers: its counts, or a refusal with a number and a place, or 12 with two counts (docs/FORMS.md, 'Numbers given back').
use Rattle.std.specs.Prelude.{ℕ, Result, Ok, Err}
use Rattle.words.specs.Replies.{refusal}
use Rattle.load_state.specs.declared.LoadCounts.{LoadCounts}
use Rattle.load_state.specs.declared.LoadRefusal.{LoadRefusal}
use Rattle.load_state.specs.declared.LoadRefusal.TheVariants.{Refused as RefusedAt, Counted as CountedBy}

abbrev pub LoadReply : Type 0
LoadReply = Result LoadCounts LoadRefusal

abbrev pub Done : ℕ → ℕ → ℕ → LoadReply
Done count batches rows = Ok (record { count = count; batches = batches; rows = rows })

abbrev pub Refused : ℕ → ℕ → LoadReply
Refused number place = Err (RefusedAt (refusal number place))

abbrev pub Counted : ℕ → ℕ → LoadReply
Counted expected got = Err (CountedBy expected got)
