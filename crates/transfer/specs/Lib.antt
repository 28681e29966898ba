pub mod Need
pub mod Parcel
pub mod NeedProofs
pub mod ParcelProofs
pub mod Laws
