use Rattle.std.proofs.Common.{◌∙◌, sym, ap, subst, Option}
use Rattle.wf_blocks.specs.declared.body.Body.{Body}
use Rattle.wf_ssa.specs.Environments.{pc_at}
use Rattle.wf_rows.specs.declared.joins.HandlerEntry.{HandlerEntry}
use Rattle.wf_body.specs.Methods.{IsHandlerAt}
use Rattle.wf_body.specs.Methods.IsHandlerAt.{reached, unreached, unnamed}
use Rattle.wf_body.proofs.handlers.handler_at.Goals as goal

pub returns-in_err-place : goal.returns-in_err-place
returns-in_err-place c =
    subst (λ (h : Option HandlerEntry). IsHandlerAt c.args.parts.now c.args.source.now c.args.blocks.now c.args.entry h) (sym c.from_residual.ensures)
    (unreached (λ place leads there. c.reached_handler.ensures.none place c.in_err-place.was leads there))

pub returns-in_err-name : goal.returns-in_err-name
returns-in_err-name c =
    subst (λ (h : Option HandlerEntry). IsHandlerAt c.args.parts.now c.args.source.now c.args.blocks.now c.args.entry h) (sym c.from_residual-in_err-name.ensures)
    (unnamed (sym c.in_err-name.ensures))

pub returns : goal.returns
returns c =
    reached c.entry_by.result (record {
      place = c.in_ok-place.place;
      leads = c.reached_handler.ensures.some c.in_ok-place.place c.in_ok-place.was;
      reached = c.reached_handler.ensures.reached c.in_ok-place.place c.in_ok-place.was;
      number = c.entry_by.ensures.number;
      target = c.entry_by.ensures.target ∙ ap (λ (b : Body). pc_at b c.in_ok-place.place) c.body.ensures;
      locals = c.entry_by.ensures.locals;
      name = c.in_ok-name.name.now;
      named = sym c.in_ok-name.ensures;
      catches = c.entry_by.ensures.catches;
    })
