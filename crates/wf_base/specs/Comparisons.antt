-- Comparisons of ints (JVMS 6.5, if<cond> and if_icmp<cond>).
use Rattle.std.specs.Prelude.{Bool, not, ℤ, int_lt}
use Rattle.std.specs.Ordering.{int_eq}
use Rattle.wf_base.specs.declared.cmp.Cmp.{Cmp}
use Rattle.wf_base.specs.declared.cmp.Cmp.TheVariants.{Eq, Ne, Lt, Ge, Gt, Le}

-- what a comparison says of two ints
abbrev pub compares : Cmp → ℤ → ℤ → Bool
compares Eq a b = int_eq a b
compares Ne a b = not (int_eq a b)
compares Lt a b = int_lt a b
compares Ge a b = not (int_lt a b)
compares Gt a b = int_lt b a
compares Le a b = not (int_lt b a)

-- the comparison that holds where this one doesn't
abbrev pub negated : Cmp → Cmp
negated Eq = Ne
negated Ne = Eq
negated Lt = Ge
negated Ge = Lt
negated Gt = Le
negated Le = Gt

-- the comparison that says the same with its operands exchanged
abbrev pub exchanged : Cmp → Cmp
exchanged Eq = Eq
exchanged Ne = Ne
exchanged Lt = Gt
exchanged Ge = Le
exchanged Gt = Lt
exchanged Le = Ge
