pub mod Config
