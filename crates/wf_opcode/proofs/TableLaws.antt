-- The table, gone through opcode by opcode.
use Rattle.std.proofs.Common.{◌≡◌, ℕ, zero, suc, ◌<◌, Bool, true, false, ◌&&◌, Option, Some, None, refl, sym, ap, subst, ◌∙◌, arith, inl, inr}
use Rattle.std.specs.Prelude.{◌==◌, if◌then◌else◌}
use Rattle.std.proofs.lemmas.Bool.{eqb-true, cases_lt}
use Rattle.wf_data.specs.declared.what.What.{What}
use Rattle.wf_data.specs.declared.what.What.TheVariants as what
use Rattle.wf_opcode.specs.declared.form.Row.{Row}
use Rattle.wf_opcode.specs.Table.{constant_row, load_row, store_row, arithmetic_row, control_row, object_row, row_of, refused_as}

abbrev each_below : (ℕ → Bool) → ℕ → Bool
each_below p zero = true
each_below p (suc n) = p n && each_below p n

both : (a b : Bool) → (a && b) ≡ true → (a ≡ true) × (b ≡ true)
both true b e = (refl, e)
both false b e = absurd cc

each_at : (p : ℕ → Bool) (n k : ℕ) → each_below p n ≡ true → k < n → p k ≡ true
each_at p zero k e lt = absurd (omega arith)
each_at p (suc n) k e lt =
    let two = both (p n) (each_below p n) e in
    elim (cases_lt k n) [
      | inl less ↦ each_at p n k two.1 less
      | inr le ↦ (let same : n ≡ k = omega arith in subst (λ (m : ℕ). p m ≡ true) same two.0)
    ]

abbrev code_of : Option What → ℕ
code_of None = 0
code_of (Some what.Float) = 1
code_of (Some what.InvokeDynamic) = 2
code_of (Some what.Jsr) = 3
code_of (Some what.MethodHandle) = 4
code_of (Some what.Reflection) = 5
code_of (Some what.Thread) = 6
code_of (Some what.Native) = 7
code_of (Some what.Code) = 8
code_of (Some what.Shape) = 9

abbrev of_code : ℕ → Option What
of_code n =
    if n == 0 then None else (if n == 1 then Some what.Float else (if n == 2 then Some what.InvokeDynamic else (if n == 3 then Some what.Jsr
    else (if n == 4 then Some what.MethodHandle else (if n == 5 then Some what.Reflection else (if n == 6 then Some what.Thread
    else (if n == 7 then Some what.Native else (if n == 8 then Some what.Code else Some what.Shape))))))))

decoded : (w : Option What) → of_code (code_of w) ≡ w
decoded None = refl
decoded (Some what.Float) = refl
decoded (Some what.InvokeDynamic) = refl
decoded (Some what.Jsr) = refl
decoded (Some what.MethodHandle) = refl
decoded (Some what.Reflection) = refl
decoded (Some what.Thread) = refl
decoded (Some what.Native) = refl
decoded (Some what.Code) = refl
decoded (Some what.Shape) = refl

abbrev alike_at : ℕ → Option Row → Bool
alike_at k None = true
alike_at k (Some r) = code_of (refused_as r.op) == code_of (refused_as k)

abbrev alike : ℕ → Bool
alike k = alike_at k (row_of k)

each_alike : each_below alike 256 ≡ true
unfolding row_of constant_row load_row store_row arithmetic_row control_row object_row
each_alike = refl

pub refused_alike : (opcode : ℕ) (row : Row) → opcode < 256 → row_of opcode ≡ Some row → refused_as row.op ≡ refused_as opcode
refused_alike opcode row lt e =
    let here : alike_at opcode (row_of opcode) ≡ true = each_at alike 256 opcode each_alike lt in
    let same : code_of (refused_as row.op) ≡ code_of (refused_as opcode) = eqb-true _ _ (subst (λ (r : Option Row). alike_at opcode r ≡ true) e here) in
    sym (decoded (refused_as row.op)) ∙ ap of_code same ∙ decoded (refused_as opcode)
