use Rattle.std.proofs.Common.{◌≡◌, ◌%◌, List, ℕ, ◌++◌, drop}
use Rattle.std.specs.List.{flat_map}
use Rattle.sha1_hmac.specs.Stream.{Absorbed}
use Rattle.sha1_hmac.proofs.stream.Sha1.absorb_long.Given as goal

abbrev pub invariant-loop-block : goal.invariant-loop-block
invariant-loop-block l =
    record {
      empty : l.self.total % 64 ≡ 0;
      absorbs : (message : List ℕ) → Absorbed l.fn.self message → (front : List ℕ) × (front ++ (flat_map (λ b. b) (drop l.block-index l.blocks) ++ l.tail) ≡ l.part) × Absorbed l.self (message ++ front);
    }
