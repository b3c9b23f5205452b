-- That what a function returned is the value that is read, unless memory ran out.
use Rattle.std.specs.Prelude.{◌≡◌, Result, Ok, Err}
use Rattle.model_values.specs.Value.{Val}
use Rattle.model_values.specs.declared.value_why.ValueWhy.{ValueWhy}
use Rattle.model_values.specs.declared.value_why.ValueWhy.TheVariants as why
use Rattle.lasp_value.specs.Value.{val_of}
use Rattle.lasp_value.specs.declared.value.Value.{Value}
use Rattle.lasp_value.specs.declared.refused.ValueRefused.{ValueRefused}
use Rattle.lasp_value.specs.declared.refused.ValueRefused.TheVariants.{NotAValue, NumberRefused, TooBig, Memory}

-- the refusal that was answered is the one of the definition; want of memory may always be
abbrev pub IsRefused : ValueRefused → Result Val ValueWhy → Type 0
IsRefused NotAValue read = read ≡ Err why.NotAValue
IsRefused NumberRefused read = read ≡ Err why.NumberRefused
IsRefused TooBig read = read ≡ Err why.TooBig
IsRefused Memory read = Unit {0}

-- the refusal for which a tree stands for no value
abbrev pub refusal_of : ValueWhy → ValueRefused
refusal_of why.NotAValue = NotAValue
refusal_of why.NumberRefused = NumberRefused
refusal_of why.TooBig = TooBig

-- what was answered is what is read
abbrev pub Gives : Result Value ValueRefused → Result Val ValueWhy → Type 0
Gives (Ok v) read = read ≡ Ok (val_of v)
Gives (Err e) read = IsRefused e read
