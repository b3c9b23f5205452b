use Rattle.lasp_live.specs.Own.{total_in}
use Rattle.lasp_live.proofs.OwnLaws.{IsNewsAt}
use Rattle.lasp_live.proofs.own.Own.is_news.Given as goal

abbrev pub invariant-loop-x : goal.invariant-loop-x
invariant-loop-x l = IsNewsAt l.graph l.me (total_in l.self) l.m l.x l.i
