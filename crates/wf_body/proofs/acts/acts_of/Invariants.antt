use Rattle.std.proofs.Common.{◌≡◌, ◌+◌, take}
use Rattle.std.specs.List.{count_by}
use Rattle.wf_body.specs.Each.{AreEach}
use Rattle.wf_body.specs.Sources.{is_site_at}
use Rattle.wf_body.specs.Methods.{IsActAt}
use Rattle.wf_body.proofs.acts.acts_of.Given as goal

abbrev pub invariant-loop-place : goal.invariant-loop-place
invariant-loop-place l =
    AreEach (IsActAt l.parts l.source l.placed l.body) l.place l.acts.items
    × (l.site ≡ l.source.first_site + count_by is_site_at (take l.place l.placed))
