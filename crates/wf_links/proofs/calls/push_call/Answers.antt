use Rattle.std.proofs.Common.{sym, subst, ap, ◌∙◌, get_or, List}
use Rattle.wf_data.specs.declared.class_info.ClassInfo.{ClassInfo}
use Rattle.wf_data.specs.declared.class_info.PoolEntry.{PoolEntry}
use Rattle.wf_linking.specs.Symbolic.{symbolic_of}
use Rattle.wf_links.specs.Callees.{IsCalleeBy}
use Rattle.wf_links.proofs.Calling.{goes_on, pool_is}
use Rattle.wf_links.proofs.calls.push_call.Goals as goal

pub returns : goal.returns
returns c =
    let types = c.args.types.now in
    let class = c.args.declared.now.class.0 in
    let k = c.index-as_slice-class.result in
    let whole = c.as_slice.ensures ∙ c.list.ensures.same ∙ c.classes.ensures in
    let is = c.index-as_slice-class.is in
    let pool = c.as_slice-pool.ensures ∙ ap (λ (x : ClassInfo). x.pool) (sym is) ∙ sym (pool_is types.classes class k c.requires.class_in (is ∙ ap (λ ks. get_or ks class k) whole)) in
    rw c.in_ok-push.ensures.items
    (goes_on types c.args.m c.args.placed.now c.args.called.now.items c.callee_at.result (sym c.is_site.ensures ∙ c.if-not-is_site.false)
    (record { class = class; info = c.args.declared.now.info.now; is = c.requires.is; by = subst (λ (p : List PoolEntry). IsCalleeBy types class (symbolic_of p c.args.placed.now.instr) c.callee_at.result) pool c.callee_at.ensures.is })
    c.callee_at.ensures.within)
