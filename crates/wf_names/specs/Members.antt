-- Names of members.
use Rattle.std.specs.Prelude.{Bool, ◌&&◌}
use Rattle.std.specs.Str.{bytes_eq}
use Rattle.wf_names.specs.declared.member.MemberName.{MemberName}
use Rattle.wf_names.specs.declared.member.MemberRef.{MemberRef}
use Rattle.wf_names.specs.NameForm.{member_of}

-- the name that three borrowed names make
abbrev pub named_by : MemberRef → MemberName
named_by m = member_of m.class.now m.name.now m.desc.now

-- whether two names are one
abbrev pub same_member : MemberName → MemberName → Bool
same_member a b = bytes_eq a.class b.class && (bytes_eq a.name b.name && bytes_eq a.desc b.desc)
