-- `of` makes the empty struct, with the words that its clause names. Assumes `Logic`.
use Rattle.std.proofs.Common.{List, [], ◌∷◌, ◌++◌, refl}
use mir.Syntax.{Fn}
use mir.Val.{Val, vptr, vstruct, vcons, vnil}
use base.Logic.{SProp}
use base.Fml.{Fml}
use prog.Wp.{WpFn, Tables}
use contract.Running.{tables, tables_of}
use sound.WpLaws.{WpFn-mono}
use types.Kit.{‵, raw, ◌⊛◌, prop, ◌$◌, ◌∵◌, !, qed, move, keep, drop, use0, split, fsplit, fjoin, feq_l, regoal, suffices, done}
use types.Part.{agg}
use types.Run.{enter, returns, and_then, no_more}
use types.ByLocal.{alloc_all, pass_all, free_all, look_at, get, sets}
use denote.Exit.{yes}
use denote.RattleType.{owns}
use denote.Builtin.{RefOf, u64}
use denote.Shadow.{makes_shadow}
use denote.Signature.{plain, types_at}
use denote.Steps.{nothing}
use denote.Triple.Clauses.{Clauses, Ended, closing}
use denote.Triple.Entry.{alive}
use denote.Triple.Spec.{triple_of}
use denote.Triple.Table.{entered}
use denote.Triple.Walked.{says, Stays, stay_dropped, walk_of, ends_at, walk_Meets, Goes-dropped}
use Rattle.wf_base.specs.contracts.items.Items as Items
use Rattle.wf_system.specs.contracts.meaning.Start as Start
use Rattle.wf_system.specs.contracts.meaning.Start.of as F
use Rattle.wf_system.specs.contracts.meaning.Start.of.Key.{name as #self}
use Rattle.wf_system.proofs.meaning.Start.of.Statement.{statement}
use Rattle.wf_system.proofs.meaning.Start.of.Code as code

-- a struct of one field without bytes
abbrev no_bytes : Val
no_bytes = vstruct (vcons (vstruct vnil) vnil)

pub of_spec : {M : Type 1} → statement M
unfolding tables_of
of_spec 𝓤 𝓛 𝓜 𝓡 wired =
    let H = 𝓛.H in
    let 𝓣 : Tables 𝓤 H = tables_of 𝓤 H 𝓜 (tables 𝓤 H 𝓜 𝓡 𝓡.env) in
    let function : Fn = code.function in
    let ended : Ended = F.ended in
    let held : Clauses 𝓤 ended = F.clauses 𝓛 𝓜.mem 𝓡.returns in
    let arg = RefOf (0 ∷ []) tt (plain (λ _. Items.the_row u64)) (λ _. tt) in
    let stayed : Stays ended.signature.params ended.kept = (stay_dropped arg yes, tt) in
    entered 𝓤 H (triple_of 𝓛 ended.signature (closing 𝓛 ended held)) 𝓣.C 𝓣.Λ #self function (code.unfolded 𝓤 H 𝓜 𝓡 wired)
    (walk_Meets 𝓛 ended stayed (Goes-dropped 𝓛 1 arg yes (λ κs x f. refl), tt) held (WpFn 𝓤 H 𝓣.C 𝓣.Λ function) (WpFn-mono 𝓤 H 𝓛.laws 𝓣 function)
    (λ z.
    let Post : Val → SProp 𝓤 = (walk_of 𝓛 ended stayed held).post z in
    let toks : SProp 𝓤 = alive 𝓛 ended.signature z.0.0 z.0.1 in
    let a = z.0.3 in
    let vss = z.0.4 in
    let made : Start.the_row.Denot = record { marker = record {}; words = a.0.now } in
    let p : Val = vptr a.0.ref_ptr.0 a.0.ref_ptr.1 in
    let Owned : Fml = Start.the_row.own_val made (no_bytes ∷ []) in
    qed 𝓛 ((raw toks ⊛ ‵ (owns (types_at ended.signature.params z.0.0) a vss)) ∷ raw ((held z.0.0 a).requires z.1) ∷ []) ∵
    keep ! (0 ∷ []) $ split ! $ move ! (1 ∷ []) $
    fsplit ! $ fsplit ! $ feq_l ! (λ is₀. drop ! $ drop ! $
    regoal ! (λ (us : List Val). prop (WpFn 𝓤 H 𝓣.C 𝓣.Λ function (us ++ []) Post)) is₀ refl $
    enter ! 𝓣.C 𝓣.Λ function (p ∷ []) Post $ alloc_all ! (λ l. pass_all ! refl ((tt, tt), tt) $
    sets ! (agg ! (no_more !)) refl (tt, tt) $
    sets ! (agg ! (and_then ! (get ! refl) (no_more !))) refl (tt, (tt, tt)) $
    use0 𝓛 (‵ Owned) (makes_shadow 𝓛 Owned ((λ ws. (tt, ((λ us. (tt, tt)), tt))), tt) (((vstruct vnil ∷ [], tt), (refl, ((tt, (refl, tt)), tt))), tt)) $
    returns ! (look_at ! 0 refl) $ free_all ! refl $
    suffices ! _ (ends_at 𝓛 ended stayed held z no_bytes made (tt, tt) (tt, tt)) $ says ! refl $
    nothing ! $ nothing ! $ fjoin ! $ move ! (2 ∷ 0 ∷ 1 ∷ []) $ done !))))
