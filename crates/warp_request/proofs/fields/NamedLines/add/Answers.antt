use Rattle.std.proofs.Common.{subst}
use Rattle.warp_request.specs.declared.names.KnownName.{KnownName}
use Rattle.warp_request.specs.NamedLines.{IsKnown}
use Rattle.warp_request.proofs.WithLemmas.{with_host, with_connection, with_coding, with_length, with_expect}
use Rattle.warp_request.proofs.WithLemmas.{with_none}
use Rattle.warp_request.proofs.fields.NamedLines.add.Goals as goal

pub returns-in-Host : goal.returns-in-Host
returns-in-Host c fields is =
    with_host c.args.self.now fields c.args.name.now c.args.value.now _
    (subst (λ (k : KnownName). IsKnown c.args.name.now k) c.in-Host.is c.known_name.ensures)
    c.with_value-self.ensures is

pub returns-in-Connection : goal.returns-in-Connection
returns-in-Connection c fields is =
    with_connection c.args.self.now fields c.args.name.now c.args.value.now _
    (subst (λ (k : KnownName). IsKnown c.args.name.now k) c.in-Connection.is c.known_name.ensures)
    c.with_value-self-in-Connection.ensures is

pub returns-in-TransferEncoding : goal.returns-in-TransferEncoding
returns-in-TransferEncoding c fields is =
    with_coding c.args.self.now fields c.args.name.now c.args.value.now _
    (subst (λ (k : KnownName). IsKnown c.args.name.now k) c.in-TransferEncoding.is c.known_name.ensures)
    c.with_value-self-in-TransferEncoding.ensures is

pub returns-in-ContentLength : goal.returns-in-ContentLength
returns-in-ContentLength c fields is =
    with_length c.args.self.now fields c.args.name.now c.args.value.now _
    (subst (λ (k : KnownName). IsKnown c.args.name.now k) c.in-ContentLength.is c.known_name.ensures)
    c.with_value-self-in-ContentLength.ensures is

pub returns-in-Expect : goal.returns-in-Expect
returns-in-Expect c fields is =
    with_expect c.args.self.now fields c.args.name.now c.args.value.now _
    (subst (λ (k : KnownName). IsKnown c.args.name.now k) c.in-Expect.is c.known_name.ensures)
    c.with_value-self-in-Expect.ensures is

pub returns-in-Other : goal.returns-in-Other
returns-in-Other c fields is =
    with_none c.args.self.now fields c.args.name.now c.args.value.now
    (subst (λ (k : KnownName). IsKnown c.args.name.now k) c.in-Other.is c.known_name.ensures) is
