use Rattle.std.proofs.Common.{◌&&◌, ap₂, ◌∙◌, rules}
use Rattle.std.specs.Str.{bytes_eq}
use Rattle.std.proofs.lemmas.Bool.Decides.{Decides-at}
use Rattle.records.specs.Equality.{same_certificate}
use Rattle.records.specs.Equal.{window_and_scope, tested_twice, same_certificate_bytes_decides}
use Rattle.records.proofs.certificate.CertificateRecord.has_key.Goals as goal

pub returns : goal.returns
unfolding same_certificate
returns c =
    let a = c.args.self.now in
    let b = c.args.sought.now in
    let scopes = window_and_scope a.scope b.scope in
    let devices = tested_twice _ (bytes_eq a.device b.device) _ scopes in
    let subjects = tested_twice _ (bytes_eq a.subject b.subject) _ devices in
    let same = ap₂ (λ x y. x && y) c.same_window.ensures.same c.eq.ensures ∙ tested_twice _ (bytes_eq a.issuer b.issuer) _ subjects in
    record { same = same; yes_exactly_where_all_bytes_are_equal = Decides-at _ _ same (same_certificate_bytes_decides a b (search rules) (search rules) (search rules) c.same_window.ensures.fits) }
