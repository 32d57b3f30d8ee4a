-- `ask` meets its contract, by the topic. Assumes nothing.
use Rattle.session.proofs.Questions.{asked_ways, asked_short}
use Rattle.session.proofs.ask.Goals as goal

pub returns-in-Ways : goal.returns-in-Ways
returns-in-Ways c = let a = c.args in
    asked_ways a.s a.question.topic a.question.number c.ways.result c.in-Ways.is c.ways.ensures

pub returns-in-Short : goal.returns-in-Short
returns-in-Short c = let a = c.args in
    asked_short a.s a.question.topic a.question.number c.short.result c.minus-present.result c.minus-present.ensures c.in-Short.is c.short.ensures
