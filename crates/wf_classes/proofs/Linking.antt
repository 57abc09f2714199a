-- What stands above classes, a class at a time; heights.
use Rattle.std.proofs.Common.{◌≡◌, ℕ, ◌+◌, ◌<◌, List, [], ◌∷◌, ◌++◌, length, get_or, map, take, Option, Some, None, refl, sym, ap, subst, ◌∙◌, inl, inr}
use Rattle.std.specs.Prelude.{slice_get, option_and_then, option_to_list}
use Rattle.std.specs.List.{filter_map}
use Rattle.std.specs.Option.{option_map_or}
use Rattle.std.proofs.lemmas.List.{take_more, length_push}
use Rattle.std.proofs.lemmas.List.Elements.{filter_map-append}
use Rattle.wf_data.specs.declared.class_info.ClassInfo.{ClassInfo}
use Rattle.wf_classes.specs.World.{class_of, number, number_in}
use Rattle.wf_classes.specs.Links.{IsLinkOf, AreLinks}
use Rattle.wf_classes.specs.declared.links.Link.{Link}
use Rattle.wf_classes.proofs.KeyLists.{get_push}

pub filter_step : {X Y : Type 0} (f : X → Option Y) (xs : List X) (i : ℕ) (d : X) → i < length xs → filter_map f (take (i + 1) xs) ≡ filter_map f (take i xs) ++ option_to_list (f (get_or xs i d))
filter_step {X = X} {Y = Y} f xs i d l = ap (filter_map f) (take_more xs i d l) ∙ filter_map-append f (take i xs) (get_or xs i d ∷ []) ∙ ap (λ ys. filter_map f (take i xs) ++ ys) (single (f (get_or xs i d))) where
  single : (o : Option Y) → filter_map (λ (p : Option Y). p) (o ∷ []) ≡ option_to_list o
  single (Some y) = refl
  single None = refl

pub links_none : (classes : List ClassInfo) → AreLinks classes 0 []
links_none classes = record { count = refl; each = λ c link e. absurd cc }

pub links_more : (classes : List ClassInfo) (n : ℕ) (links : List Link) (link : Link) (k : ClassInfo) → slice_get classes n ≡ Some k → number_in link.superclass ≡ option_and_then (class_of classes) k.superclass → map number link.superinterfaces.items ≡ filter_map (class_of classes) k.interfaces → AreLinks classes n links → AreLinks classes (n + 1) (links ++ link ∷ [])
links_more classes n links link k e super interfaces h = record {
  count = length_push links link ∙ ap (λ m. m + 1) h.count;
  each = λ c l f. elim (get_push links link c l f) [
    | inl a ↦ h.each c l a
    | inr b ↦ subst (IsLinkOf classes c) b.1 (subst (λ m. IsLinkOf classes m link) (sym (b.0 ∙ h.count)) (record {
      superclass = super ∙ sym (ap (option_and_then (λ (k : ClassInfo). option_and_then (class_of classes) k.superclass)) e);
      superinterfaces = interfaces ∙ sym (ap (λ (o : Option ClassInfo). option_map_or (λ (k : ClassInfo). filter_map (class_of classes) k.interfaces) o []) e);
    }))
  ];
}
