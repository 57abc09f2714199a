-- What the closed classes keep (this project's own).
use Rattle.std.specs.Prelude.{ℕ, List, length}
use Rattle.wf_data.specs.declared.class_info.ClassInfo.{ClassInfo}
use Rattle.wf_classes.specs.World.{IsClosedWorld, AreHeights}
use Rattle.wf_classes.specs.Members.{method_keys, field_keys}
use Rattle.wf_classes.specs.Links.{AreLinks, AreMembers}
use Rattle.wf_classes.specs.declared.links.Link.{Link}
use Rattle.wf_classes.specs.declared.members.MemberPlace.{MemberPlace}

pub record IsKept (list : List ClassInfo) (links : List Link) (order heights : List ℕ) (first_methods : List ℕ) (methods : List MemberPlace) (first_fields : List ℕ) (fields : List MemberPlace) : Type 0 where
  pub world : IsClosedWorld list
  pub linked : AreLinks list (length list) links
  pub ranked : AreHeights list order heights
  pub with_methods : AreMembers (method_keys list) (length list) first_methods methods
  pub with_fields : AreMembers (field_keys list) (length list) first_fields fields
