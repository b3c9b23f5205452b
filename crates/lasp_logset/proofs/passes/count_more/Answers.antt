use Rattle.std.proofs.Common.{◌++◌, ◌&&◌, nat_lt, List, ap, ◌∙◌, length}
use Rattle.model_sets.specs.Rows.{of_rows, mark}
use Rattle.model_values.specs.Row.{Row}
use Rattle.lasp_logset.proofs.PassLaws.{counts-one, counts-none, few-more, few-same}
use Rattle.lasp_logset.proofs.passes.count_more.Goals as goal

pub loop-entry-preserved-then-is_alone : goal.loop-entry-preserved-then-is_alone
loop-entry-preserved-then-is_alone c = record {
  counted = counts-one c.args.log.now.items c.loop-entry.left c.next.new.self c.in-Some.entry.now c.is_alone.result c.loop-entry.count (length (of_rows (c.args.other.now.items ++ c.args.log.now.items))) c.in-Some.ensures.some (c.is_alone.ensures ∙ ap (λ (s : List Row). nat_lt (mark s c.in-Some.entry.now.0.0 c.in-Some.entry.now.0.1) 1 && nat_lt (mark c.args.log.now.items c.in-Some.entry.now.0.0 c.in-Some.entry.now.0.1) 1) c.rest.ensures) c.if-is_alone.true c.loop-entry.invariant.counted;
  few = few-more c.loop-entry.left c.next.new.self c.in-Some.entry.now c.loop-entry.count (length c.args.other.now.items) c.in-Some.ensures.some c.loop-entry.invariant.few;
}

pub loop-entry-preserved : goal.loop-entry-preserved
loop-entry-preserved c = record {
  counted = counts-none c.args.log.now.items c.loop-entry.left c.next.new.self c.in-Some.entry.now c.is_alone.result c.loop-entry.count (length (of_rows (c.args.other.now.items ++ c.args.log.now.items))) c.in-Some.ensures.some (c.is_alone.ensures ∙ ap (λ (s : List Row). nat_lt (mark s c.in-Some.entry.now.0.0 c.in-Some.entry.now.0.1) 1 && nat_lt (mark c.args.log.now.items c.in-Some.entry.now.0.0 c.in-Some.entry.now.0.1) 1) c.rest.ensures) c.if-is_alone.false c.loop-entry.invariant.counted;
  few = few-same c.loop-entry.left c.next.new.self c.in-Some.entry.now c.loop-entry.count (length c.args.other.now.items) c.in-Some.ensures.some c.loop-entry.invariant.few;
}
