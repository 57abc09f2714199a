-- What a report is read as (this project's own). Reading goes from line to line, and the first line that isn't as the
-- form wants it there is bad.
use Rattle.std.specs.Prelude.{ℕ, zero, suc, ◌+◌, ◌-◌, ◌^◌, Bool, true, false, List, [], ◌∷◌, ◌++◌, Option, Some, None, Result, Ok, Err, ◌==◌, length, take, drop, position, slice_get, codes, if◌then◌else◌}
use Rattle.std.specs.declared.cmp.Ordering.{Ordering}
use Rattle.std.specs.Ordering.{is_lt}
use Rattle.std.specs.Str.{bytes_eq}
use Rattle.wf_names.specs.declared.member.MemberName.{MemberName}
use Rattle.wf_names.specs.declared.world.LinkError.{LinkError}
use Rattle.wf_names.specs.declared.world.LinkError.TheVariants.{NoClassDefFound, NoSuchField, NoSuchMethod, IncompatibleClassChange, Instantiation}
use Rattle.wf_names.specs.declared.world.Unresolved.{Unresolved}
use Rattle.wf_names.specs.declared.world.World.{World}
use Rattle.wf_names.specs.NameForm.{name_of}
use Rattle.wf_names.specs.Words.{link_error_word}
use Rattle.wf_lines.specs.Decimals.{natural_in}
use Rattle.wf_lines.specs.Lines.{words_of}
use Rattle.wf_lines.specs.Members.{◌>>=◌, member_said}
use Rattle.wf_report.specs.Worlds.{is_type_name, is_method, is_field, is_place, name_cmp, member_cmp, place_cmp}

-- where reading goes on: the number of the line, counted from 1, and the bytes from there on
pub record Place : Type 0 where
  pub line : ℕ
  pub left : List ℕ

abbrev pub spot : ℕ → List ℕ → Place
spot line left = record { line = line; left = left }

-- a reader gives a value and where reading goes on, or the number of the bad line
abbrev pub Reader : Type 0 → Type 0
Reader X = Place → Result (X × Place) ℕ

abbrev pub next : {X Y : Type 0} → Result X ℕ → (X → Result Y ℕ) → Result Y ℕ
next (Ok x) f = f x
next (Err line) f = Err line

-- Each line ends with a line feed. What stands behind the last one is no line.
abbrev pub cut_at : Option ℕ → List ℕ → Option (List ℕ × List ℕ)
cut_at None text = None
cut_at (Some i) text = Some (take i text, drop (i + 1) text)

abbrev pub cut : List ℕ → Option (List ℕ × List ℕ)
cut text = cut_at (position (λ b. b == 10) text) text

abbrev pub at_line : {X : Type 0} → ℕ → List ℕ → Option X → Result (X × Place) ℕ
at_line line rest None = Err line
at_line line rest (Some x) = Ok (x, spot (line + 1) rest)

abbrev pub in_cut : {X : Type 0} → (List ℕ → Option X) → ℕ → Option (List ℕ × List ℕ) → Result (X × Place) ℕ
in_cut said line None = Err line
in_cut said line (Some parts) = at_line line parts.1 (said parts.0)

-- one line that says something
abbrev pub say : {X : Type 0} → (List ℕ → Option X) → Reader X
say said p = in_cut said p.line (cut p.left)

-- ---- what a line says

abbrev pub given : {X : Type 0} → Bool → X → Option X
given true x = Some x
given false x = None

-- this line and no other
abbrev pub exactly : List ℕ → List ℕ → Option (Unit {0})
exactly want text = given (bytes_eq text want) tt

-- an entry that stands behind the last of those before it
abbrev pub is_behind : {X : Type 0} → (X → X → Ordering) → Option X → X → Bool
is_behind cmp None x = true
is_behind cmp (Some last) x = is_lt (cmp last x)

abbrev pub last_of : {X : Type 0} → List X → Option X
last_of xs = slice_get xs (length xs - 1)

-- an entry that is allowed, and behind those before it
abbrev pub entry : {X : Type 0} → (X → Bool) → (X → X → Ordering) → List X → X → Option X
entry is cmp before x = given (is x) x >>= λ y. given (is_behind cmp (last_of before) y) y

-- two words that are a member
abbrev pub member_of_words : List (List ℕ) → Option MemberName
member_of_words [] = None
member_of_words (word ∷ []) = None
member_of_words (word ∷ desc ∷ []) = member_said word desc
member_of_words (word ∷ desc ∷ w ∷ ws) = None

abbrev pub keyed : {X : Type 0} → List ℕ → List ℕ → X → Option X → Option X
keyed word key x other = if bytes_eq word key then Some x else other

-- the error that a word is
abbrev pub error_of : List ℕ → Option LinkError
error_of word =
    keyed word (link_error_word NoClassDefFound) NoClassDefFound (keyed word (link_error_word NoSuchField) NoSuchField (keyed word (link_error_word NoSuchMethod) NoSuchMethod
    (keyed word (link_error_word IncompatibleClassChange) IncompatibleClassChange (keyed word (link_error_word Instantiation) Instantiation None))))

-- four words that are a place: a member, a number below 65536 and an error
abbrev pub place_of_words : List (List ℕ) → Option Unresolved
place_of_words (word ∷ desc ∷ pc ∷ error ∷ []) =
    member_said word desc >>= λ m. natural_in 65535 pc >>= λ n. error_of error >>= λ e. Some (record { method = m; pc = n; error = e })
place_of_words words = None

abbrev pub type_said : List (List ℕ) → List ℕ → Option (List ℕ)
type_said before text = name_of text >>= λ name. entry is_type_name name_cmp before name

abbrev pub method_said : List MemberName → List ℕ → Option MemberName
method_said before text = member_of_words (words_of text) >>= λ m. entry is_method member_cmp before m

abbrev pub field_said : List MemberName → List ℕ → Option MemberName
field_said before text = member_of_words (words_of text) >>= λ m. entry is_field member_cmp before m

abbrev pub place_said : List Unresolved → List ℕ → Option Unresolved
place_said before text = place_of_words (words_of text) >>= λ u. entry is_place place_cmp before u

-- a title and how many lines follow, a decimal below 2^64
abbrev pub count_of_words : List ℕ → List (List ℕ) → Option ℕ
count_of_words title [] = None
count_of_words title (word ∷ []) = None
count_of_words title (word ∷ count ∷ []) = if bytes_eq word title then natural_in (2 ^ 64 - 1) count else None
count_of_words title (word ∷ count ∷ w ∷ ws) = None

abbrev pub count_said : List ℕ → List ℕ → Option ℕ
count_said title text = count_of_words title (words_of text)

-- ---- the report

-- so many lines, each an entry behind those before it
unfoldable pub entries : {X : Type 0} → (List X → List ℕ → Option X) → ℕ → List X → Reader (List X)
entries said zero before p = Ok (before, p)
entries said (suc count) before p = next (say (said before) p) (λ x. entries said count (before ++ x.0 ∷ []) x.1)

abbrev pub section_at : {X : Type 0} → List ℕ → (List X → List ℕ → Option X) → Reader (List X)
section_at title said p = next (say (count_said title) p) (λ n. entries said n.0 [] n.1)

-- behind the last line nothing stands
abbrev pub whole : {X : Type 0} → X → Place → Result X ℕ
whole x p = if length p.left == 0 then Ok x else Err p.line

abbrev pub lists_at : Reader World
lists_at p =
    next (section_at (codes "types") type_said p) (λ types. next (section_at (codes "methods") method_said types.1) (λ methods. next (section_at (codes "fields") field_said methods.1) (λ fields.
    next (section_at (codes "unresolved") place_said fields.1) (λ unresolved. Ok (record { types = types.0; methods = methods.0; fields = fields.0; unresolved = unresolved.0 }, unresolved.1)))))

-- the last line
abbrev pub end_at : {X : Type 0} → X → Place → Result X ℕ
end_at x p = next (say (exactly (codes "end")) p) (λ ended. whole x ended.1)

-- the world that a report is, or its first bad line
abbrev pub world_of : List ℕ → Result World ℕ
world_of text = next (say (exactly (codes "world 1")) (spot 1 text)) (λ begun. next (lists_at begun.1) (λ lists. end_at lists.0 lists.1))
