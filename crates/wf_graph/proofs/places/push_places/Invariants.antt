use Rattle.std.proofs.Common.{◌≡◌, ◌+◌, ◌<◌, ◌++◌, length, take, drop}
use Rattle.std.specs.List.{count_by}
use Rattle.wf_rows.specs.Each.{each_from}
use Rattle.wf_rows.specs.Renaming.{all_renamed}
use Rattle.wf_known.specs.Fronts.{IsReached}
use Rattle.wf_graph.specs.Bodies.{Body, is_switch_at}
use Rattle.wf_graph.specs.BodyRows.{rows_of_place}
use Rattle.wf_graph.specs.Flow.{IsBodyBy}
use Rattle.wf_graph.proofs.places.push_places.Given as goal

abbrev pub invariant-loop-place : goal.invariant-loop-place
invariant-loop-place g l = record {
  keys : l.keys ≡ l.first_keys + count_by is_switch_at (take l.place l.reading.blocks.steps);
  front : l.place < length l.reading.blocks.steps → IsReached l.reading.blocks l.env.1 l.reading.method l.place l.front;
  rows : (b : Body) → IsBodyBy l.reading.blocks l.env.1 l.reading.method l.reading.acts l.reading.handlers b → b.first_keys ≡ l.first_keys
      → l.rows.items ++ all_renamed (g.C.Context.number l.context) (each_from (rows_of_place (g.C.Context.arrays l.context) (g.C.Context.thrown l.context) b) l.place (drop l.place l.reading.blocks.steps))
      ≡ l.fn.rows.items ++ all_renamed (g.C.Context.number l.context) (each_from (rows_of_place (g.C.Context.arrays l.context) (g.C.Context.thrown l.context) b) 0 l.reading.blocks.steps);
}
