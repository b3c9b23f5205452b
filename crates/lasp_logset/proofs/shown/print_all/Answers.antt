use Rattle.std.specs.String.{string_bytes}
use Rattle.lasp_logset.proofs.ShownLaws.{text-begin}
use Rattle.lasp_logset.proofs.shown.print_all.Goals as goal

pub loop-next-init : goal.loop-next-init
unfolding lib.Utf8.encode
loop-next-init c = text-begin (string_bytes c.args.out.now) (string_bytes c.push.new.self) c.args.shown.now c.in_ok-push.ensures.bytes
