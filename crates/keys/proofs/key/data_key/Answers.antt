use Rattle.std.proofs.Common.{rules, ◌∙◌, ◌≡◌, ◌<◌, length, take, Option, None, MatchOption, false, Bool, cond, ◌++◌, Ok, Err, sym, ap}
use Rattle.text.specs.Bytes.{Bytes}
use Rattle.keys.specs.declared.fault.StoreFault.TheVariants.{Malformed}
use Rattle.paths.specs.declared.inline.Inline.{Inline}
use Rattle.keys.specs.Keys.{is_key}
use Rattle.keys.specs.MetadataKeys.{prefix_of}
use Rattle.paths.specs.Values.{names_of}
use Rattle.keys.specs.Values.{key_in}
use Rattle.keys.proofs.KeyTexts.{long_no_key}
use Rattle.keys.proofs.key.data_key.Goals as goal

-- a refusal of text that is too long
refused : (o : Option (Inline 400)) (k : Bytes) → MatchOption o (400 < length k) (λ v. take v.len v.bytes ≡ k) → o ≡ None → is_key k ≡ false
refused o k m e = long_no_key k (rw e at m)

pub returns-in_err-key : goal.returns-in_err-key
returns-in_err-key c =
    let k : Bytes = prefix_of (names_of c.args.path.now) ++ c.args.chunk_key.now in
    let r : key_in c.from_residual.result ≡ Err Malformed = search rules in
    r ∙ sym (ap (λ (b : Bool). cond b (Ok k) (Err Malformed)) (refused c.behind_prefix.result k c.behind_prefix.ensures c.in_err-key.ensures.ok_part))
