pub mod Hmac
