-- Calls that the code takes as equal are one.
use Rattle.std.proofs.Common.{◌≡◌, ℕ, true, ◌&&◌, nat_eq, Option, None, Some, refl, ap, ◌∙◌}
use Rattle.std.specs.Option.{option_eq}
use Rattle.std.proofs.lemmas.Bool.{and_parts, eqb-true, eq-eqb}
use Rattle.wf_links.specs.declared.callee.Callee.{Callee}
use Rattle.wf_links.specs.declared.callee.Selection.{Selection}
use Rattle.wf_links.specs.declared.callee.Selection.TheVariants as by
use Rattle.wf_links.specs.contracts.callee.CalleePartialEq.TheImpl.{eq-value}
use Rattle.wf_links.specs.contracts.callee.SelectionPartialEq.TheImpl.{eq-value as selection_eq}

one_selection : (a b : Selection) → (selection_eq).it a b ≡ true → a ≡ b
one_selection by.Virtual by.Virtual e = refl
one_selection by.Interface by.Interface e = refl
one_selection by.Known by.Known e = refl
one_selection a b e = cc

same_selection : (a : Selection) → (selection_eq).it a a ≡ true
same_selection by.Virtual = refl
same_selection by.Interface = refl
same_selection by.Known = refl

one_callee : (a b : Callee) → (eq-value).it a b ≡ true → a ≡ b
one_callee a b e =
    let p = and_parts (nat_eq a.receivers b.receivers) (nat_eq a.method b.method && (selection_eq).it a.by b.by) e in
    let q = and_parts (nat_eq a.method b.method) ((selection_eq).it a.by b.by) p.1 in
    ap (λ (u : ℕ). record a { receivers = u }) (eqb-true a.receivers b.receivers p.0)
    ∙ ap (λ (m : ℕ). record a { receivers = b.receivers; method = m }) (eqb-true a.method b.method q.0)
    ∙ ap (λ (s : Selection). record b { by = s }) (one_selection a.by b.by q.1)

same_callee : (a : Callee) → (eq-value).it a a ≡ true
same_callee a =
    ap (λ b. b && (nat_eq a.method a.method && (selection_eq).it a.by a.by)) (eq-eqb a.receivers a.receivers refl)
    ∙ ap (λ b. b && (selection_eq).it a.by a.by) (eq-eqb a.method a.method refl)
    ∙ same_selection a.by

pub one_call : (a b : Option Callee) → option_eq (eq-value).it a b ≡ true → a ≡ b
one_call None None e = refl
one_call None (Some b) e = absurd cc
one_call (Some a) None e = absurd cc
one_call (Some a) (Some b) e = ap Some (one_callee a b e)

pub same_call : (a : Option Callee) → option_eq (eq-value).it a a ≡ true
same_call None = refl
same_call (Some a) = same_callee a
