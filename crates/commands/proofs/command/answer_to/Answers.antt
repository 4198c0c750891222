use Rattle.std.proofs.Common.{sym, subst}
use Rattle.job_course.specs.Ending.{AnswersAll, AnswersCommand}
use Rattle.commands.specs.Command.{course_of, said_by}
use Rattle.commands.specs.Output.{Outputs}
use Rattle.commands.proofs.command.answer_to.Goals as goal

pub returns-in-Wire-clause-complete : goal.returns-in-Wire-clause-complete
returns-in-Wire-clause-complete g c = subst (λ x. AnswersAll (course_of (said_by x)) (g.S.Store.state c.args.store.now) (g.S.Store.state c.answer.new.store) (g.K.Sink.state c.args.out.now) (g.K.Sink.state c.answer.new.out) c.answer.result) (sym c.in-Wire.is) c.answer.ensures.complete

pub returns-in-Forward-clause-complete : goal.returns-in-Forward-clause-complete
returns-in-Forward-clause-complete g c = subst (λ x. AnswersAll (course_of (said_by x)) (g.S.Store.state c.args.store.now) (g.S.Store.state c.answer-in-Forward.new.store) (g.K.Sink.state c.args.out.now) (g.K.Sink.state c.answer-in-Forward.new.out) c.answer-in-Forward.result) (sym c.in-Forward.is) c.answer-in-Forward.ensures.complete

pub returns-in-Run-clause-complete : goal.returns-in-Run-clause-complete
returns-in-Run-clause-complete g c = subst (λ x. AnswersAll (course_of (said_by x)) (g.S.Store.state c.args.store.now) (g.S.Store.state c.answer-in-Run.new.store) (g.K.Sink.state c.args.out.now) (g.K.Sink.state c.answer-in-Run.new.out) c.answer-in-Run.result) (sym c.in-Run.is) c.answer-in-Run.ensures.complete

pub returns-in-Link-clause-complete : goal.returns-in-Link-clause-complete
returns-in-Link-clause-complete g c = subst (λ x. AnswersAll (course_of (said_by x)) (g.S.Store.state c.args.store.now) (g.S.Store.state c.answer-in-Link.new.store) (g.K.Sink.state c.args.out.now) (g.K.Sink.state c.answer-in-Link.new.out) c.answer-in-Link.result) (sym c.in-Link.is) c.answer-in-Link.ensures.complete

pub returns-in-Load-clause-complete : goal.returns-in-Load-clause-complete
returns-in-Load-clause-complete g c = subst (λ x. AnswersAll (course_of (said_by x)) (g.S.Store.state c.args.store.now) (g.S.Store.state c.answer-in-Load.new.store) (g.K.Sink.state c.args.out.now) (g.K.Sink.state c.answer-in-Load.new.out) c.answer-in-Load.result) (sym c.in-Load.is) c.answer-in-Load.ensures.complete

pub returns-in-Load-clause-answer : goal.returns-in-Load-clause-answer
returns-in-Load-clause-answer g c = subst (λ x. AnswersCommand Outputs (course_of (said_by x)) (g.S.Store.state c.args.store.now) (g.S.Store.state c.answer-in-Load.new.store) (g.K.Sink.state c.args.out.now) (g.K.Sink.state c.answer-in-Load.new.out) c.answer-in-Load.result) (sym c.in-Load.is) c.answer-in-Load.ensures.answer
