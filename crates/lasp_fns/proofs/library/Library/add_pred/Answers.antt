use Rattle.std.proofs.Common.{◌≡◌, ◌↔◌, sym, subst, Bool, Err, IsTrue}
use Rattle.model_values.specs.Name.{is_name}
use Rattle.lasp_fns.specs.declared.refused.LibraryRefused.TheVariants.{NameTaken}
use Rattle.lasp_fns.specs.Kept.{named_of}
use Rattle.lasp_fns.specs.Stored.{conditions_of}
use Rattle.lasp_fns.proofs.Names.{named-told}
use Rattle.lasp_fns.proofs.library.Library.add_pred.Goals as goal

pub returns-clause-taken : goal.returns-clause-taken
returns-clause-taken g c = subst (λ (b : Bool). (c.add.result ≡ Err NameTaken) ↔ (IsTrue (is_name c.args.name.now) × IsTrue b)) (sym (named-told conditions_of c.args.name.now (named_of c.args.self.now.predicates))) c.add.ensures.taken
