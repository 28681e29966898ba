-- What an image says of a file.
use Rattle.std.specs.Prelude.{◌≡◌, ℕ, ◌<◌, ◌≤◌, List, length, take, slice_index}
use Rattle.disk_images.specs.declared.image.Image.{Image}

-- The image has the first bytes of the file, and the others are zeros.
pub record IsImageOf (file : List ℕ) (image : Image) : Type 0 where
  pub bytes : image.bytes.items ≡ take (length image.bytes.items) file
  pub zeros : (i : ℕ) → length image.bytes.items ≤ i → i < length file → slice_index file i ≡ 0
  pub len : image.len ≡ length file
