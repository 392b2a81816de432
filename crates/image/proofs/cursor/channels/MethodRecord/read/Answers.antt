use Rattle.std.proofs.Common.{◌≡◌, arith, refl}
use Rattle.std.specs.Option.{option_map}
use Rattle.std.proofs.lemmas.Grind.{common_steps}
use Rattle.image.specs.Layout.{Method, values, over}
use Rattle.image.specs.Readers.{◌>>=◌, done, last_of}
use Rattle.image.specs.View.{seen_method}
use Rattle.image.proofs.Composing.{next, known}
use Rattle.image.proofs.cursor.channels.MethodRecord.read.Goals as goal

pub returns : goal.returns
returns c =
    let low : over c.map.result ≡ over (option_map (λ (m : Method). m.label) (option_map seen_method (last_of c.args.before.now))) = grind (arith, common_steps) in
    next (λ r. r) (λ n l. values n.types 8 >>= λ cs. done (record { label = l; codes = cs })) (rw low at c.in_ok-label.ensures) (next (λ r. r) (λ n cs. done (record { label = _; codes = cs })) c.in_ok-codes.ensures (known _ refl))
