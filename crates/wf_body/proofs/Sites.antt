-- How many call sites stand in front of a place.
use Rattle.std.proofs.Common.{◌≡◌, ℕ, ◌+◌, ◌<◌, ◌≤◌, Bool, true, false, List, length, ◌++◌, take, drop, get_or, refl, sym, ap, ◌∙◌, arith}
use Rattle.std.specs.Prelude.{if◌then◌else◌}
use Rattle.std.specs.List.{count_by}
use Rattle.std.specs.List.{filter}
use Rattle.std.proofs.lemmas.List.{length-append, take-append-drop}
use Rattle.std.proofs.lemmas.List.Elements.{filter-append}
use Rattle.std.proofs.lemmas.List.Sums.{count_by_more_yes, count_by_more_no, length-filter}
use Rattle.wf_data.specs.declared.instr.Placed.{Placed}
use Rattle.wf_links.specs.Sites.{is_site}
use Rattle.wf_body.specs.Sources.{is_site_at}

count_of : (xs ys : List Placed) → count_by is_site_at (xs ++ ys) ≡ count_by is_site_at xs + count_by is_site_at ys
count_of xs ys =
    sym (length-filter is_site_at (xs ++ ys)) ∙ ap length (filter-append is_site_at xs ys) ∙ length-append (filter is_site_at xs) (filter is_site_at ys)
    ∙ omega (arith, length-filter is_site_at xs, length-filter is_site_at ys)

within : (placed : List Placed) (i : ℕ) → count_by is_site_at (take i placed) ≤ count_by is_site_at placed
within placed i = (let parts = sym (count_of (take i placed) (drop i placed)) ∙ ap (count_by is_site_at) (take-append-drop i placed) in omega (arith, parts))

abbrev one_if : Bool → ℕ
one_if b = if b then 1 else 0

-- the sites in front of the next place
pub more_sites : (placed : List Placed) (i : ℕ) (p : Placed) → i < length placed → p ≡ get_or placed i p → count_by is_site_at (take (i + 1) placed) ≡ count_by is_site_at (take i placed) + (if is_site p.instr then 1 else 0)
more_sites placed i p l e = at (is_site p.instr) refl where
  at : (b : Bool) → is_site p.instr ≡ b → count_by is_site_at (take (i + 1) placed) ≡ count_by is_site_at (take i placed) + one_if b
  at true t = count_by_more_yes is_site_at placed i p l (sym (ap is_site_at e) ∙ t)
  at false t = count_by_more_no is_site_at placed i p l (sym (ap is_site_at e) ∙ t) ∙ omega arith

-- a site has a number
pub site_within : (placed : List Placed) (i : ℕ) (p : Placed) → i < length placed → p ≡ get_or placed i p → is_site p.instr ≡ true → count_by is_site_at (take i placed) < count_by is_site_at placed
site_within placed i p l e t = (let one = count_by_more_yes is_site_at placed i p l (sym (ap is_site_at e) ∙ t) in omega (arith, one, within placed (i + 1)))
