use Rattle.wf_system.proofs.AgreeLaws.{guards_agree, meanings_agree, ints_agree, members_grow}
use Rattle.wf_system.proofs.laws.alike_assignments_agree.Goals as goal

pub returns : goal.returns
returns g c = record {
  guards = λ t x y guard shaped fits up down. guards_agree t x y up down shaped guard fits;
  meanings = λ t x y n d shaped kind up down. meanings_agree t x y up down shaped n d kind;
  ints = λ t x y n shaped kind up down. ints_agree t x y up down shaped n kind;
  members = members_grow;
}
