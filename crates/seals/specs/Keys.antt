-- The keys and tags of a connection.
use Rattle.std.specs.Prelude.{ℕ, List, ◌++◌, length, codes}
use Rattle.std.specs.Int.{w64, to_be_bytes}
use Rattle.mac.specs.Hmac.{hmac_sha256}
use Rattle.seals.specs.declared.keys.SessionKeys.{SessionKeys}

-- what a key or a tag is made of: a word, and both hellos, each behind its length in eight bytes, the highest first
abbrev pub handshake_text : List ℕ → List ℕ → List ℕ → List ℕ
handshake_text word initiator responder =
    word ++ to_be_bytes w64 (length initiator) ++ initiator ++ to_be_bytes w64 (length responder) ++ responder

-- each has a word of its own
abbrev pub session_keys : List ℕ → List ℕ → List ℕ → SessionKeys
session_keys site_key initiator responder =
    let made = λ (word : List ℕ). hmac_sha256 site_key (handshake_text word initiator responder) in record {
      initiator_key = made (codes "initiator key");
      responder_key = made (codes "responder key");
      initiator_tag = made (codes "initiator tag");
      responder_tag = made (codes "responder tag");
    }
