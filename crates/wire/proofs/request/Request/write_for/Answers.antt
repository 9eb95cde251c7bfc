use Rattle.std.proofs.Common.{◌≡◌, ℕ, length, ap, ◌∙◌, subst}
use Rattle.wire.specs.Envelope.{tag_width}
use Rattle.wire.specs.Writing.{writing, filled, writing_for, filled_for, width_for, Fits}
use Rattle.wire.specs.Requests.{fields_of}
use Rattle.wire.proofs.Written.{reads_back}
use Rattle.wire.proofs.request.Request.write_for.Goals as goal

pub returns : goal.returns
unfolding writing_for filled_for
returns c =
    let width : c.for_kind.result ≡ width_for c.args.lengths.session c.args.lengths.public (fields_of c.args.self.now) = c.for_kind.ensures.as_defined ∙ ap (tag_width c.args.lengths.session c.args.lengths.public) c.kind.ensures in
    record {
      as_defined = c.write_with.ensures.as_defined ∙ ap (λ w. writing w (fields_of c.args.self.now) (length c.args.out.now)) width;
      buffer = c.write_with.ensures.buffer ∙ ap (λ w. filled w (fields_of c.args.self.now) c.args.out.now) width;
      reads_back = λ ok. reads_back c.args.lengths.session c.args.lengths.public (fields_of c.args.self.now) (subst (λ (w : ℕ). Fits w (fields_of c.args.self.now)) width (c.write_with.ensures.fields_fit ok));
    }
