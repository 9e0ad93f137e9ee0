-- What the values of the code mean: the text that a key or a prefix holds.
-- Assumes nothing.
use Rattle.std.specs.Prelude.{take, Ok, Err, Result}
use Rattle.text.specs.Bytes.{Bytes}
use Rattle.keys.specs.declared.fault.StoreFault.{StoreFault}
use Rattle.keys.specs.declared.store_key.StoreKey.{StoreKey}
use Rattle.keys.specs.declared.store_key.StorePrefix.{StorePrefix}

abbrev pub key_text : StoreKey → Bytes
key_text k = take k.text.len k.text.bytes

abbrev pub prefix_text : StorePrefix → Bytes
prefix_text k = take k.text.len k.text.bytes

-- an answer of the code, read so
abbrev pub key_in : Result StoreKey StoreFault → Result Bytes StoreFault
key_in (Ok k) = Ok (key_text k)
key_in (Err e) = Err e

abbrev pub prefix_in : Result StorePrefix StoreFault → Result Bytes StoreFault
prefix_in (Ok k) = Ok (prefix_text k)
prefix_in (Err e) = Err e
