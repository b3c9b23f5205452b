use Rattle.std.proofs.Common.{◌≡◌, ◌↔◌, sym, subst, Bool, Err, IsTrue}
use Rattle.model_values.specs.Name.{is_name}
use Rattle.lasp_fns.specs.declared.refused.LibraryRefused.TheVariants.{NameTaken}
use Rattle.lasp_fns.specs.Kept.{named_of}
use Rattle.lasp_fns.specs.Stored.{lift_of}
use Rattle.lasp_fns.proofs.Names.{named-told}
use Rattle.lasp_fns.proofs.library.Library.add_lift.Goals as goal

pub returns-clause-taken : goal.returns-clause-taken
returns-clause-taken g c = subst (λ (b : Bool). (c.add.result ≡ Err NameTaken) ↔ (IsTrue (is_name c.args.name.now) × IsTrue b)) (sym (named-told lift_of c.args.name.now (named_of c.args.self.now.lifts))) c.add.ensures.taken
