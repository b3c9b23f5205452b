-- The forms of declarations as plain data.
use Rattle.model_readings.specs.Graph as plain
use Rattle.lasp_graph.specs.declared.written.Form.{Form}
use Rattle.lasp_graph.specs.declared.written.Form.TheVariants.{OrSet, GSet, Counter, MaxReg, Union, Product, Intersection, Map, Filter, Fold}
use Rattle.lasp_graph.specs.declared.written.Written.{Written}
use Rattle.lasp_graph.specs.Kind.{fold_op_of}

abbrev pub form_view : Form → plain.Form
form_view OrSet = plain.orset
form_view GSet = plain.gset
form_view Counter = plain.counter
form_view MaxReg = plain.maxreg
form_view (Union x y) = plain.union x.now y.now
form_view (Product x y) = plain.product x.now y.now
form_view (Intersection x y) = plain.intersection x.now y.now
form_view (Map x f) = plain.map x.now f.now
form_view (Filter x p) = plain.filter x.now p.now
form_view (Fold x op l) = plain.fold x.now (fold_op_of op) l.now

abbrev pub written_view : Written → plain.Written
written_view w = record { name = w.name.now; form = form_view w.form }
