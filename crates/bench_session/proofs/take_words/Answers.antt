use borrow.Author.Rules.{rules}
use Rattle.bench_session.proofs.Sessions.{turn_more, turn_first}
use Rattle.bench_session.proofs.take_words.Goals as goal

pub play-requires : goal.play-requires
play-requires c = record { ring = (search rules, c.requires.session.0.reads c.if-session.true, search rules, search rules) }

pub returns-then-session : goal.returns-then-session
returns-then-session c = record { turn = turn_more _ _ _ _ c.if-session.true c.play.ensures.turn }

pub returns : goal.returns
returns c = record { turn = turn_first _ _ _ _ c.if-session.false c.begin.ensures.turn }
