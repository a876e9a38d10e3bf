-- Worked examples of name tables (Names), which the checker computes.
use Rattle.std.specs.Prelude.{◌≡◌, refl, [], ◌∷◌, map}
use Rattle.rules.specs.Numbers.{accepted, refused}
use Rattle.rules.specs.Text.{bytes, parted, number_from, decimal_up_to}
use Rattle.rules.specs.Lines.{fold_lines}
use Rattle.rules.specs.Tries.{same_list}
use Rattle.rules.specs.Listing.{place_in}
use Rattle.rules.specs.Names.{named, all_name_bytes, named_of, is_taken, read_names}

-- docs/FORMS.md's example; no line; one name in three kinds, a space and the bytes 33 and 126
names_read :
    map (λ text. read_names text)
    (bytes "t\t10\tAudiologist\ne\t500\topenFitting\nf\t7\trole\n"
    ∷ bytes ""
    ∷ bytes "t\t0\ta b\nt\t65535\t!~\ne\t0\ta b\nf\t0\ta b\n"
    ∷ [])
    ≡ accepted (named 10 5 11 ∷ named 66036 23 11 ∷ named 131079 39 4 ∷ [])
    ∷ accepted []
    ∷ accepted (named 0 4 3 ∷ named 65535 16 2 ∷ named 65536 23 3 ∷ named 131072 31 3 ∷ [])
    ∷ []
unfolding parted number_from decimal_up_to place_in fold_lines same_list all_name_bytes named_of is_taken
names_read = refl

-- Refused: another letter; a field less; one more; an empty name; an id that is too large; a quote; a backslash; the byte 127; no LF at the end; an
-- empty line; an id twice; kinds out of order; a name twice within its kind.
refused_names :
    map (λ text. read_names text)
    (bytes "T\t1\ta\n"
    ∷ bytes "t\t1\n"
    ∷ bytes "t\t1\ta\tb\n"
    ∷ bytes "t\t1\t\n"
    ∷ bytes "t\t65536\ta\n"
    ∷ bytes "t\t1\t\"\n"
    ∷ bytes "t\t1\t\\\n"
    ∷ bytes "t\t1\t\u{7f}\n"
    ∷ bytes "t\t1\ta"
    ∷ bytes "t\t1\ta\n\n"
    ∷ bytes "t\t1\ta\nt\t1\tb\n"
    ∷ bytes "t\t1\ta\nf\t1\tb\ne\t1\tc\n"
    ∷ bytes "t\t1\ta\nt\t2\tb\nt\t3\ta\n"
    ∷ [])
    ≡ refused 1 0
    ∷ refused 1 0
    ∷ refused 1 0
    ∷ refused 1 0
    ∷ refused 1 0
    ∷ refused 1 0
    ∷ refused 1 0
    ∷ refused 1 0
    ∷ refused 1 0
    ∷ refused 1 1
    ∷ refused 1 1
    ∷ refused 1 2
    ∷ refused 1 2
    ∷ []
unfolding parted number_from decimal_up_to place_in fold_lines same_list all_name_bytes named_of is_taken
refused_names = refl
