-- The senders of the messages, counted.
use Rattle.std.specs.Prelude.{◌≡◌, ℕ, ◌+◌, ◌*◌, ◌<◌, Bool, List, leb, length, get_or}
use Rattle.model.specs.Sets.{all, tabulate}
use Rattle.model.specs.Leafset.{Table, size}
use Rattle.model.specs.Ring.{sent_by}
use Rattle.model.specs.Words.{decode_message_at}

-- how many of the first m messages x has sent
abbrev pub sent_of : List ℕ → ℕ → ℕ → ℕ → ℕ
sent_of ws base m x = sent_by x (tabulate m (λ k. decode_message_at ws (base + 5 * k)))

-- no node of the table has sent more than 256 of them
unfoldable pub senders_read : List ℕ → ℕ → Table → ℕ → Bool
senders_read ws base t m = all (size t) (λ x. leb (sent_of ws base m x) 256)

-- for each of 64 nodes, how many of the first m messages it has sent
pub record Counts (ws : List ℕ) (base m : ℕ) (counts : List ℕ) : Type 0 where
  pub long : length counts ≡ 64
  pub count : (x : ℕ) → x < 64 → get_or counts x 0 ≡ sent_of ws base m x
