use Rattle.std.proofs.Common.{◌∙◌, length, map, refl, ap}
use Rattle.std.proofs.lemmas.List.{length-map}
use Rattle.wf_rows.specs.Nodes.{Shared}
use Rattle.wf_nodes.specs.Tables.{followed_at, nodes_at}
use Rattle.wf_nodes.proofs.SharedFacts.{field_has_nodes, method_has_nodes}
use Rattle.wf_nodes.proofs.shared.shared_nodes.Goals as goal

pub returns : goal.returns
returns c =
    let types = c.args.types.now in
    let methods = c.in_ok-methods.methods.places.items in
    let fields = c.in_ok-fields.fields.places.items in
    let s : Shared = record { classes = c.len-classes.result; methods = map nodes_at methods; fields = map followed_at fields; arrays = c.in_ok-arrays.arrays.list.items; copies = c.args.copies } in
    record {
      classes = c.len-classes.ensures ∙ ap length (c.list.ensures.same ∙ c.classes.ensures);
      methods_count = length-map methods nodes_at ∙ c.in_ok-methods.ensures.are.count;
      methods = λ m l. method_has_nodes types s methods m refl (c.in_ok-methods.ensures.are.each m l);
      fields_count = length-map fields followed_at ∙ c.in_ok-fields.ensures.are.count;
      fields = λ f l. field_has_nodes types s fields f refl (c.in_ok-fields.ensures.are.each f l);
      arrays = c.in_ok-arrays.ensures.are;
      copied = refl;
    }
