-- What a call that may run out of memory gives.
use Rattle.std.specs.Prelude.{◌≡◌, Result, Ok, Err}
use Rattle.script_words.specs.declared.fault.Refused.{Refused}
use Rattle.script_words.specs.declared.fault.TextFault.{TextFault}
use Rattle.script_words.specs.declared.fault.TextFault.TheVariants as faults

-- what was refused is what reading refuses; want of memory says nothing
abbrev pub Fails : {Y : Type 0} → TextFault → Result Y Refused → Type 0
Fails faults.NoMemory read = Unit {0}
Fails (faults.Refused r) read = read ≡ Err r

-- what the call returned is what reading gives, unless memory ran out
abbrev pub Gives : {Y : Type 0} → Result Y TextFault → Result Y Refused → Type 0
Gives (Ok x) read = read ≡ Ok x
Gives (Err e) read = Fails e read
