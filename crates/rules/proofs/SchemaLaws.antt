-- Laws of a schema's text that is accepted (Schema): its items may stand one after the other, each is said by a line, and so they are a
-- good schema (StepLaws). No contract cites this file.
use Rattle.std.specs.Prelude.{ℕ, ◌+◌, ◌≤◌, ◌≡◌, refl, true, List, [], ◌∷◌, eqb, length}
use Rattle.std.proofs.Common.{sym}
use Rattle.std.proofs.Math.Option.{some, none-ne-some, some-injective}
use Rattle.rules.specs.Numbers.{Answer, accepted, refused}
use Rattle.rules.specs.Text.{bytes, lines_of, fields_of, decimal_of}
use Rattle.rules.proofs.TextLaws.{decimal_written}
use Rattle.rules.specs.Facts.{by_test, by_option, cond-some, accepted_same}
use Rattle.rules.specs.Listing.{is_letter, place_in}
use Rattle.rules.proofs.ListingLaws.{bind_some, refused_not}
use Rattle.rules.specs.Schema.{Item, Known, unknown, type_of, pair_of, item_of, fits, beyond, lawful_items, ahead, items_from, read_schema, value_of}
use Rattle.rules.proofs.StepLaws.{Each, each_then, GoodSchema}
pub use Rattle.rules.specs.SchemaLaws.{Said, LawfulAndSaid}

-- ---- lines that are accepted

-- an item in front of what was accepted
ahead_accepted :
    {P : Type 0} (it : Item) (answer : Answer (List Item)) (items : List Item)
    → ahead it answer ≡ accepted items
    → ((others : List Item) → answer ≡ accepted others → it ∷ others ≡ items → P)
    → P
ahead_accepted it (accepted others) items e then = then others refl (accepted_same (it ∷ others) items e)
ahead_accepted it (refused number place) items e then = refused_not number place items e

said_front :
    (known : Known) (it : Item) (items : List Item)
    → fits known it ≡ true
    → Said it
    → LawfulAndSaid (beyond known it) items
    → LawfulAndSaid known (it ∷ items)
unfolding lawful_items Each
said_front known it items fit said (rest, others) = rw fit (rest, (said, others))

said_none : (known : Known) (items : List Item) → accepted [] ≡ accepted items → LawfulAndSaid known items
unfolding lawful_items Each
said_none known items e = rw (sym (accepted_same [] items e)) (refl, tt)

lines_said :
    (lines : List (List ℕ)) (known : Known) (place : ℕ) (items : List Item)
    → items_from known place lines ≡ accepted items
    → LawfulAndSaid known items
unfolding items_from
lines_said [] known place items e = said_none known items e
lines_said (line ∷ []) known place items e =
    by_test (eqb (length line) 0) (λ q. said_none known items (rw q at e)) (λ q. refused_not 1 place items (rw q at e))
lines_said (line ∷ next ∷ lines) known place items e =
    by_option (item_of (fields_of line))
    (λ q. refused_not 1 place items (rw (q, items_from) at e))
    (λ it q.
    by_test (fits known it)
    (λ fit.
    ahead_accepted it (items_from (beyond known it) (place + 1) (next ∷ lines)) items (rw (q, items_from, fit) at e)
    (λ others f same.
    rw (sym same) (said_front known it others fit (fields_of line, q) (lines_said (next ∷ lines) (beyond known it) (place + 1) others f))))
    (λ unfit. refused_not 1 place items (rw (q, items_from, unfit) at e)))

-- The items of a schema's text may stand one after the other, and each is said by a line.
pub schema_said :
    (text : List ℕ) (items : List Item)
    → read_schema text ≡ accepted items
    → (lawful_items unknown items ≡ true) × Each Said items
schema_said text items e = lines_said (lines_of text) unknown 0 items e

-- ---- keys

-- a key is a decimal
type_key : (number kind : List ℕ) (more : List (List ℕ)) (it : Item) → type_of number kind more ≡ some it → it.key ≤ 65535
type_key number kind more it e =
    bind_some (decimal_of number) _ it e
    (λ n hn e.
    bind_some (decimal_of kind) _ it e
    (λ k _ e. bind_some (value_of k more) _ it e (λ v _ e. rw (sym (some-injective _ _ e)) (decimal_written number n hn).1)))

pair_key : (word key type : List ℕ) (it : Item) → pair_of word key type ≡ some it → it.key ≤ 65535
pair_key word key type it e =
    bind_some (place_in (bytes "FLC") word) _ it e
    (λ place _ e.
    bind_some (decimal_of key) _ it e
    (λ k hk e. bind_some (decimal_of type) _ it e (λ t _ e. rw (sym (some-injective _ _ e)) (decimal_written key k hk).1)))

said_key : (it : Item) → Said it → it.key ≤ 65535
unfolding item_of
said_key it ([], e) = absurd (none-ne-some it e)
said_key it (word ∷ [], e) = absurd (none-ne-some it e)
said_key it (word ∷ name ∷ [], e) =
    bind_some (decimal_of name) _ it (cond-some (is_letter 69 word) _ it e).1
    (λ n hn e. rw (sym (some-injective _ _ e)) (decimal_written name n hn).1)
said_key it (word ∷ a ∷ b ∷ [], e) =
    by_test (is_letter 84 word) (λ q. type_key a b [] it (rw q at e)) (λ q. pair_key word a b it (rw q at e))
said_key it (word ∷ a ∷ b ∷ c ∷ more, e) = type_key a b (c ∷ more) it (cond-some (is_letter 84 word) _ it e).1

-- What reading a schema's text accepts is a good schema.
pub schema_text_good : (text : List ℕ) (items : List Item) → read_schema text ≡ accepted items → GoodSchema items
schema_text_good text items e =
    let (order, said) = schema_said text items e in
    (order, each_then Said (λ it. it.key ≤ 65535) said_key items said)
