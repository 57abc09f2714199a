use Rattle.std.proofs.Common.{◌≡◌, ◌∙◌, ◌++◌, ◌∷◌, [], ap, map, subst, sym, List, length, IsPermutation, rules, arith, refl}
use Rattle.std.proofs.lemmas.List.{take_all}
use Rattle.std.proofs.lemmas.List.Sorted.{IsNonDecreasingBy-from_sort_by_key}
use Rattle.std.proofs.lemmas.Option.{slice_get_read}
use Rattle.wf_classes.specs.declared.waits.Wait.{Wait}
use Rattle.wf_classes.specs.Closing.{wanted, waits_upto}
use Rattle.wf_classes.proofs.WaitLists.{waits_more, wanted_more}
use Rattle.wf_classes.proofs.waits.waits_of.Goals as goal

pub loop-below-preserved : goal.loop-below-preserved
loop-below-preserved c =
    let files = c.args.files.now in
    let k = c.index-files-below.result in
    let read = slice_get_read files (length files) c.loop-below.below k refl c.loop-below-test.true c.index-files-below.is in
    record {
      starts = c.in_ok-push.ensures.items ∙ ap (λ xs. xs ++ c.wanted.result ∷ []) c.loop-below.invariant.starts ∙ rw c.wanted.ensures (sym (wanted_more files c.loop-below.below k read));
      all = c.in_ok-push_waits.ensures ∙ rw c.loop-below.invariant.all (sym (waits_more files c.loop-below.below k read));
    }

pub returns : goal.returns
returns c =
    let files = c.args.files.now in
    let end : c.loop-below.below ≡ length files = omega arith in
    let by = λ (w : Wait). w.above in
    record {
      starts = c.loop-below.invariant.starts ∙ ap (map wanted) (take_all c.loop-below.below files c.loop-below-test.false);
      all = subst (λ (ws : List Wait). IsPermutation ws c.sort_unstable_by_key.new.self.items) (c.loop-below.invariant.all ∙ ap (waits_upto files) end) c.sort_unstable_by_key.ensures.permutation;
      sorted = IsNonDecreasingBy-from_sort_by_key by _ c.sort_unstable_by_key.ensures.sorted (λ a r q k. search rules);
    }
