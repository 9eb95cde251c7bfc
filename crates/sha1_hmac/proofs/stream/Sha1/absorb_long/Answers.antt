use Rattle.std.proofs.Common.{◌≡◌, ◌+◌, [], ◌++◌, drop, get_or, subst, arith, sym, ap, ◌∙◌}
use Rattle.std.specs.List.{flat_map}
use Rattle.std.proofs.lemmas.List.{append_assoc, at_drop_more, at_drop_all}
use Rattle.sha1_hmac.specs.Stream.{Absorbed}
use Rattle.sha1_hmac.proofs.Absorbing.{pieces_and_rest}
use Rattle.sha1_hmac.proofs.stream.Sha1.absorb_long.Goals as goal

pub loop-block-init : goal.loop-block-init
loop-block-init c =
    let n = c.split_at.ensures.front_len in
    record {
      empty = omega (arith, c.fill.ensures.counts);
      absorbs = λ m a. (
        c.split_at.result.0.now,
        simp (c.as_chunks.ensures.front, c.as_chunks.ensures.back, pieces_and_rest) (sym c.split_at.ensures.by_index.0),
        c.fill.ensures.absorbs m a,
      );
    }

pub loop-block-preserved : goal.loop-block-preserved
loop-block-preserved c =
    let blocks = c.as_chunks.result.0.now in
    let tail = c.as_chunks.result.1.now in
    let i = c.loop-block.block-index in
    let block = get_or blocks i [] in
    record {
      empty = c.absorb_block.ensures.stays_empty;
      absorbs = λ m a.
          let h = c.loop-block.invariant.absorbs m a in (
            h.0 ++ block,
            append_assoc h.0 block (flat_map (λ b. b) (drop (i + 1) blocks) ++ tail)
                ∙ ap (λ x. h.0 ++ x) (sym (append_assoc block (flat_map (λ b. b) (drop (i + 1) blocks)) tail))
                ∙ ap (λ x. h.0 ++ (x ++ tail)) (sym (at_drop_more (flat_map (λ b. b)) blocks i [] c.loop-block-test.true))
                ∙ h.1,
            subst (Absorbed c.absorb_block.new.self) (append_assoc m h.0 block) (c.absorb_block.ensures.absorbs _ h.2),
          );
    }

pub returns : goal.returns
returns c =
    record {
      absorbs = λ m a.
          let h = c.loop-block.invariant.absorbs m a in
          let none = at_drop_all (flat_map (λ b. b)) c.as_chunks.result.0.now c.loop-block.block-index c.loop-block-test.false in
          let tail = c.as_chunks.result.1.now in
          let whole : h.0 ++ tail ≡ c.args.part.now = ap (λ x. h.0 ++ (x ++ tail)) (sym none) ∙ h.1 in
          subst (Absorbed c.fill-2.new.self) (append_assoc m h.0 tail ∙ ap (λ x. m ++ x) whole) (c.fill-2.ensures.absorbs _ h.2);
    }
