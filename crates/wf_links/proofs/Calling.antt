-- What the sites of methods call, one after the other.
use Rattle.std.proofs.Common.{◌≡◌, ℕ, ◌+◌, ◌<◌, Bool, true, false, List, [], ◌∷◌, ◌++◌, length, take, get_or, Option, Some, sym, ap, subst, ◌∙◌, append-nil}
use Rattle.std.specs.Prelude.{if◌then◌else◌}
use Rattle.std.proofs.lemmas.Grind.{flat_map-append}
use Rattle.std.proofs.lemmas.List.{take_more}
use Rattle.std.proofs.lemmas.Slice.Zip.{AllZip-long}
use Rattle.wf_base.specs.declared.ids.MethodId.{MethodId}
use Rattle.wf_data.specs.declared.instr.Placed.{Placed}
use Rattle.wf_subtype.specs.Subtypes.{AllTypes}
use Rattle.wf_links.specs.declared.callee.Callee.{Callee}
use Rattle.wf_links.specs.Candidates.{AreCalled, AreCalledIn, AreCalledBelow, Goes}
use Rattle.wf_links.specs.Sites.{AreSites, sites_in, site_at}
use Rattle.wf_links.specs.Sites.AreSites.{none, method}
use Rattle.wf_links.proofs.Pairing.{zip_append}
use Rattle.std.proofs.lemmas.List.Elements.{All-nil, All-push, All-append}
use Rattle.wf_links.proofs.Pairing.{zip_push}
use Rattle.wf_links.specs.Sites.{is_site}
use Rattle.wf_links.specs.Candidates.{IsThereIfAny}
use Rattle.wf_links.specs.Callees.{IsCallee, pool_at}
use Rattle.wf_data.specs.declared.class_info.ClassInfo.{ClassInfo}
use Rattle.std.specs.Option.{option_map_or}
use Rattle.std.proofs.lemmas.Option.{slice_get-get_or}

-- the pool of a class
pub pool_is : (classes : List ClassInfo) (c : ℕ) (k : ClassInfo) → c < length classes → k ≡ get_or classes c k → pool_at classes c ≡ k.pool
pool_is classes c k l e = ap (λ o. option_map_or (λ (k : ClassInfo). k.pool) o []) (slice_get-get_or classes c k l ∙ ap Some (sym e))

pub no_sites : (types : AllTypes) → AreCalled types [] []
no_sites types = record { each = tt; inside = All-nil (IsThereIfAny types) }

module _ (types : AllTypes) (m : MethodId) where
  -- an instruction that is no site
  pub goes_past : (p : Placed) (old : List (Option Callee)) → is_site p.instr ≡ false → Goes types m p old old
  goes_past p old e = record { on = λ sites h. subst (λ ss. AreCalled types ss old) (sym (ap (λ (b : Bool). sites ++ (if b then record { method = m; at = p } ∷ [] else [])) e ∙ append-nil sites)) h }

  -- a site
  pub goes_on : (p : Placed) (old : List (Option Callee)) (callee : Option Callee) → is_site p.instr ≡ true → IsCallee types (record { method = m; at = p }) callee → IsThereIfAny types callee → Goes types m p old (old ++ callee ∷ [])
  goes_on p old callee e is inside = record {
    on = λ sites h. subst (λ ss. AreCalled types ss (old ++ callee ∷ [])) (sym (ap (λ (b : Bool). sites ++ (if b then record { method = m; at = p } ∷ [] else [])) e)) (record {
      each = zip_push (IsCallee types) sites old (record { method = m; at = p }) callee h.each is;
      inside = All-push (IsThereIfAny types) old callee h.inside inside;
    });
  }

  -- one instruction more
  pub sites_on : (code : List Placed) (old new : List (Option Callee)) (i : ℕ) (p : Placed) → i < length code → p ≡ get_or code i p
      → AreCalled types (sites_in m (take i code)) old → Goes types m p old new → AreCalled types (sites_in m (take (i + 1) code)) new
  sites_on code old new i p l e h g =
      subst (λ ss. AreCalled types ss new)
      (sym (ap (sites_in m) (take_more code i p l ∙ ap (λ z. take i code ++ z ∷ []) (sym e)) ∙ flat_map-append (site_at m) (take i code) (p ∷ []) ∙ ap (λ z. sites_in m (take i code) ++ z) (append-nil (site_at m p))))
      (g.on (sites_in m (take i code)) h)

pub none_below : (types : AllTypes) → AreCalledBelow types 0 [] []
none_below types = record { sites = []; numbered = none; called = no_sites types }

-- one method more
pub below_on : (types : AllTypes) (n : ℕ) (m : MethodId) (firsts : List ℕ) (called more : List (Option Callee)) → m.0 ≡ n → AreCalledBelow types n firsts called → AreCalledIn types m more
    → AreCalledBelow types (n + 1) (firsts ++ length called ∷ []) (called ++ more)
below_on types n m firsts called more e h g = record {
  sites = h.sites ++ sites_in m g.code;
  numbered = subst (λ k. AreSites types.classes (k + 1) (firsts ++ length called ∷ []) (h.sites ++ sites_in m g.code)) e
      (subst (λ k. AreSites types.classes (m.0 + 1) (firsts ++ k ∷ []) (h.sites ++ sites_in m g.code)) (sym (AllZip-long (IsCallee types) h.sites called h.called.each))
      (method m.0 firsts h.sites g.code (subst (λ k. AreSites types.classes k firsts h.sites) (sym e) h.numbered) g.is));
  called = record {
    each = zip_append (IsCallee types) h.sites (sites_in m g.code) called more h.called.each g.called.each;
    inside = All-append (IsThereIfAny types) called more h.called.inside g.called.inside;
  };
}
